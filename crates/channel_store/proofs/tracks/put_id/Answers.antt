use Rattle.std.proofs.Common.{◌≡◌, ◌∙◌, Some, cond, false, rules, w64, to_z, of_z}
use Rattle.std.specs.Prelude.{is_some}
use Rattle.std.specs.Map.{lookup}
use Rattle.std.proofs.lemmas.Int.{to_z-of_z}
use Rattle.etp_values.specs.SameUri.{same_uri}
use Rattle.channel_store.proofs.TableLemmas.{put_new}
use Rattle.channel_store.proofs.tracks.put_id.Goals as goal

pub returns : goal.returns
returns c =
    let uri = c.args.uri.now in
    let old = c.args.ids.now.entries in
    let none : is_some (lookup (same_uri uri) old) ≡ false = search rules in
    let key : c.in_ok-copy.field-0 ≡ uri = search rules in
    let id : to_z w64 (of_z w64 c.args.id) ≡ c.args.id = to_z-of_z w64 c.args.id c.ranges.id in
    put_new uri c.args.id old c.insert.new.self.entries none
    (λ u. c.in_ok-insert.ensures.updates.0 u ∙ (λ j. cond (same_uri (key j) u) (Some (id j)) (lookup (same_uri u) old)))
