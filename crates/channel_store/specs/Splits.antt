-- Lists in order, and lists that a test splits in two.
pub use Rattle.channel_points.specs.Splits.{RisesBy, IsSplit}
