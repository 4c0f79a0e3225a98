use Rattle.std.proofs.Common.{◌≡◌, ◌++◌, ◌∷◌, [], None, false, ap, ◌∙◌}
use Rattle.std.specs.Map.{lookup}
use Rattle.indexmap.proofs.CallerLemmas.{insert_entry-new}
use Rattle.tx_stage.specs.Kept.{touches}
use Rattle.tx_stage.specs.Keys.{same_key}
use Rattle.tx_stage.specs.Staging.{Transaction, is_touched, noted}
use Rattle.tx_stage.proofs.StageLemmas.{absent, note-new}
use Rattle.tx_stage.proofs.stage.Stage.note.Goals as goal

pub returns-clause-ok : goal.returns-clause-ok
returns-clause-ok c =
    let s = c.self.inside in
    let key = c.in_ok-key.key in
    let seen : Transaction = record { id = s.id; read_only = s.read_only; spaces = s.spaces; ops = s.ops.items; touched = touches s.touched.entries } in
    let fresh : is_touched (touches s.touched.entries) c.args.key.now ≡ false = ap (λ (x : Transaction). is_touched x.touched c.args.key.now) c.self.view_is ∙ c.requires in
    let same : key ≡ c.args.key.now = c.in_ok-key.ensures in
    let none : lookup (same_key key) s.touched.entries ≡ None = absent key s.touched.entries (ap (is_touched (touches s.touched.entries)) same ∙ fresh) in
    let put : c.insert.new.self.entries ≡ s.touched.entries ++ (key, c.args.mark) ∷ [] = c.in_ok-insert.ensures.entries ∙ insert_entry-new same_key s.touched key c.args.mark none in
    note-new seen s.touched.entries c.insert.new.self.entries c.args.key.now key c.args.mark (λ j. touches s.touched.entries) fresh same put ∙ ap (λ x. noted c.args.mark x c.args.key.now) c.self.view_is
