use Rattle.std.proofs.Common.{subst, sym, ap, ◌∙◌}
use Rattle.web_frames.specs.Messages.{Adds, shown, with_piece}
use Rattle.web_frames.proofs.MessageLemmas.{added-uncounted, added-counted}
use Rattle.web_frames.proofs.coming.Coming.add.Goals as goal

pub returns-in_default : goal.returns-in_default
returns-in_default c = added-uncounted (shown c.args.self.now) c.args.piece.now c.in_default.ensures

pub returns-in-Binary : goal.returns-in-Binary
returns-in-Binary c =
    subst (λ e. Adds e c.keep.result (shown c.keep.new.self))
    (sym (added-counted (shown c.args.self.now) c.args.piece.now c.in-Some.count c.in-Some.ensures.0 (sym c.in-Some.ensures.1)
    ∙ ap (λ k. with_piece k (shown c.args.self.now) c.in-Some.count c.args.piece.now) c.in-Binary.is))
    c.keep.ensures

pub returns-in-Text : goal.returns-in-Text
returns-in-Text c =
    subst (λ e. Adds e c.check.result (shown c.check.new.self))
    (sym (added-counted (shown c.args.self.now) c.args.piece.now c.in-Some.count c.in-Some.ensures.0 (sym c.in-Some.ensures.1)
    ∙ ap (λ k. with_piece k (shown c.args.self.now) c.in-Some.count c.args.piece.now) c.in-Text.is))
    c.check.ensures
