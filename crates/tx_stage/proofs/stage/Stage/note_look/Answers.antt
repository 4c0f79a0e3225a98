use Rattle.std.proofs.Common.{◌≡◌, true, false, length, sym, ap, ◌∙◌, arith}
use Rattle.std.specs.Prelude.{nat_le}
use Rattle.std.proofs.lemmas.Bool.Decides.{nat_tests}
use Rattle.tx_stage.specs.Kept.{touches}
use Rattle.tx_stage.specs.Keys.{space_of}
use Rattle.tx_stage.specs.Staging.{Transaction, has_space, is_touched}
use Rattle.tx_stage.proofs.StageLemmas.{found-touched, length-touches, note-known, note-full}
use Rattle.tx_stage.proofs.stage.Stage.note_look.Goals as goal

pub returns-then-contains_key-clause-answer : goal.returns-then-contains_key-clause-answer
returns-then-contains_key-clause-answer c =
    let s = c.self.inside in
    let key = c.args.key.now in
    let has : has_space c.args.self.now.spaces (space_of key) ≡ true = ap (has_space c.args.self.now.spaces) (sym c.space.ensures) ∙ sym c.has_space.ensures ∙ c.if-not-has_space.false in
    let touched : is_touched c.args.self.now.touched key ≡ true = ap (λ (x : Transaction). is_touched x.touched key) (sym c.self.view_is) ∙ sym (found-touched key s.touched.entries) ∙ sym c.contains_key.ensures ∙ c.if-contains_key.true in
    (note-known c.args.self.now key c.args.mark has touched).0

pub returns-then-contains_key-clause-stage : goal.returns-then-contains_key-clause-stage
returns-then-contains_key-clause-stage c =
    let s = c.self.inside in
    let key = c.args.key.now in
    let has : has_space c.args.self.now.spaces (space_of key) ≡ true = ap (has_space c.args.self.now.spaces) (sym c.space.ensures) ∙ sym c.has_space.ensures ∙ c.if-not-has_space.false in
    let touched : is_touched c.args.self.now.touched key ≡ true = ap (λ (x : Transaction). is_touched x.touched key) (sym c.self.view_is) ∙ sym (found-touched key s.touched.entries) ∙ sym c.contains_key.ensures ∙ c.if-contains_key.true in
    (note-known c.args.self.now key c.args.mark has touched).1

pub returns-then-len-ge-MAX_TOUCHED-clause-answer : goal.returns-then-len-ge-MAX_TOUCHED-clause-answer
returns-then-len-ge-MAX_TOUCHED-clause-answer c =
    let s = c.self.inside in
    let key = c.args.key.now in
    let has : has_space c.args.self.now.spaces (space_of key) ≡ true = ap (has_space c.args.self.now.spaces) (sym c.space.ensures) ∙ sym c.has_space.ensures ∙ c.if-not-has_space.false in
    let fresh : is_touched c.args.self.now.touched key ≡ false = ap (λ (x : Transaction). is_touched x.touched key) (sym c.self.view_is) ∙ sym (found-touched key s.touched.entries) ∙ sym c.contains_key.ensures ∙ c.if-contains_key.false in
    let held : nat_le 16384 (length s.touched.entries) ≡ true = grind (arith, nat_tests) in
    let counted : nat_le 16384 (length (touches s.touched.entries)) ≡ true = ap (nat_le 16384) (length-touches s.touched.entries) ∙ held in
    let full : nat_le 16384 (length c.args.self.now.touched) ≡ true = ap (λ (x : Transaction). nat_le 16384 (length x.touched)) (sym c.self.view_is) ∙ counted in
    λ other. note-full c.args.self.now key has fresh full

pub note-requires : goal.note-requires
note-requires c =
    let s = c.self.inside in
    let key = c.args.key.now in
    ap (λ (x : Transaction). is_touched x.touched key) (sym c.self.view_is) ∙ sym (found-touched key s.touched.entries) ∙ sym c.contains_key.ensures ∙ c.if-contains_key.false
