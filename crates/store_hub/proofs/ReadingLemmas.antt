-- An answer by what the pass sees afterwards, and what a fresh pass has; for the crates above too.
use Rattle.std.proofs.Common.{◌≡◌, ◌==◌, ◌≤◌, ℕ, ℤ, Bool, true, List, [], ◌∷◌, ◌++◌, length, map, take, refl, ap, sym, ◌∙◌, subst, eq-eqb, arith}
use Rattle.std.specs.Prelude.{if◌then◌else◌}
use Rattle.std.proofs.lemmas.Bool.{false≢true, eqb-true, and_parts}
use Rattle.std.proofs.lemmas.List.{append-nil, take_at}
use Rattle.server_config.specs.declared.config.Config.{Config}
use Rattle.store_machine.specs.declared.call.StoreCall.{StoreCall}
use Rattle.store_machine.specs.declared.call.Answer.{Answer}
use Rattle.store_machine.specs.declared.journal.Entry.{Entry}
use Rattle.store_machine.specs.Answers.{answered, added}
use Rattle.store_machine.specs.Laws.{OneOrNone}
use Rattle.store_machine.proofs.NumberLemmas.{added-one, entries-one}
use Rattle.etp_values.proofs.PrefixLemmas.{prefix_length}
use Rattle.turn_book.specs.Lists.{Each, own}
use Rattle.store_hub.specs.declared.pass.Pass.{Pass}
use Rattle.store_hub.specs.Words.{Known, by_of, enters_of}
use Rattle.store_hub.specs.Kept.{begins_at, is_alone}
use Rattle.store_hub.specs.Notes.{noted, Answers}
use Rattle.store_hub.specs.Passes.{known, IsFresh}
use Rattle.store_hub.specs.Laws.{Reads}

mark_of : (config : Config) (log : List Entry) (call : StoreCall) → (answered config log call).mark ≡ length log
unfolding answered
mark_of config log call = refl

pub noted_seen : (log es : List Entry) (v : Known) → OneOrNone es → (noted log es v).seen ≡ log ++ es
noted_seen log [] v one = sym (append-nil log)
noted_seen log (e ∷ []) v one = refl
noted_seen log (e ∷ f ∷ es) v one = absurd one

noted_marks : (log es : List Entry) (v : Known) → OneOrNone es → (noted log es v).marks ≡ (v.marks ++ length log ∷ []) ++ map (λ (e : Entry). length log) es
noted_marks log [] v one = sym (append-nil (v.marks ++ length log ∷ []))
noted_marks log (e ∷ []) v one = refl
noted_marks log (e ∷ f ∷ es) v one = absurd one

pub reads : (config : Config) (n nth : ℕ) (at : ℤ) (call : StoreCall) (v : Known) (a : Answer) (w : Known) → Answers config n nth at call v a w → Reads config n nth at call v a w
reads config n nth at call v a w t =
    let log : List Entry = t.log in
    let es : List Entry = added config log n nth at call in
    let one : OneOrNone es = added-one entries-one config log n nth at call in
    let mark : a.mark ≡ length log = ap (λ (x : Answer). x.mark) t.answer ∙ mark_of config log call in
    let seen : w.seen ≡ log ++ es = ap (λ (x : Known). x.seen) t.view ∙ noted_seen log es (record v { missed = t.missed }) one in
    let marks : w.marks ≡ (v.marks ++ length log ∷ []) ++ map (λ (e : Entry). length log) es = ap (λ (x : Known). x.marks) t.view ∙ noted_marks log es (record v { missed = t.missed }) one in
    let front : take a.mark w.seen ≡ log = ap (λ (l : List Entry). take a.mark l) seen ∙ take_at log es a.mark (sym mark) in
    let before : length v.seen ≤ length log = prefix_length v.seen log t.before in record {
      least = omega (arith, mark, before);
      heard = subst (λ (k : ℕ). Each (λ n. n ≤ k) v.heard) (sym mark) t.heard;
      answer = t.answer ∙ ap (λ (l : List Entry). answered config l call) (sym front);
      seen = seen ∙ ap (λ (l : List Entry). l ++ added config l n nth at call) (sym front);
      marks = marks ∙ (ap (λ (k : ℕ). (v.marks ++ k ∷ []) ++ map (λ (e : Entry). k) es) (sym mark)
          ∙ ap (λ (l : List Entry). (v.marks ++ a.mark ∷ []) ++ map (λ (e : Entry). a.mark) (added config l n nth at call)) (sym front));
    }

-- ---- a fresh pass

only_one : (n entries : ℕ) (places : List ℕ) → places ≡ n ∷ [] → is_alone n entries places ≡ true → entries ≡ 1
only_one n entries places is alone =
    let t : (if n == n then entries == 1 else true) ≡ true = subst (λ (ps : List ℕ). is_alone n entries ps ≡ true) is alone in
    eqb-true entries 1 (subst (λ (b : Bool). (if b then entries == 1 else true) ≡ true) (eq-eqb n n refl) t)

one_own : (n : ℕ) (xs : List (ℕ × Entry)) → length xs ≡ 1 → begins_at n xs ≡ true → (e : Entry) × (xs ≡ (n, e) ∷ []) × (enters_of e ≡ true)
one_own n [] len begins = absurd (false≢true begins)
one_own n (first ∷ []) len begins =
    let t = and_parts (first.0 == n) (enters_of first.1) begins in
    (first.1, ap (λ (k : ℕ). (k, first.1) ∷ []) (eqb-true first.0 n t.0), t.1)
one_own n (first ∷ second ∷ more) len begins = absurd (omega (arith, len))

pub fresh_entered : (p : Pass) → IsFresh p → (e : Entry) × (own by_of p.number (known p).seen ≡ (p.number, e) ∷ []) × (enters_of e ≡ true)
fresh_entered p fresh =
    let k = p.kept in
    let one : p.entries ≡ 1 = only_one p.number p.entries (known p).places fresh.0 k.4 in
    one_own p.number (own by_of p.number (known p).seen) (k.2 ∙ one) k.3
