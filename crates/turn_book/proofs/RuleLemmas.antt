-- A view still fits after each kind of step.
use Rattle.std.proofs.Common.{◌≡◌, ◌≢◌, ℕ, zero, suc, ◌+◌, ◌≤◌, ◌<◌, Bool, true, false, cond, List, [], ◌∷◌, ◌++◌, map, length, Option, Some, None, IfSome, slice_get, refl, ap, sym, ◌∙◌, subst, arith, length-append, leb}
use Rattle.std.proofs.lemmas.Option.{slice_get_within}
use mathlib.Core.Option.{some, some-injective, some-ne-none}
use mathlib.Core.List.{IsPrefix, map-append}
use lib.ListN.{get_elem?}
use Rattle.std.proofs.lemmas.Bool.Decides.{nat_tests}
use Rattle.atomic_table.proofs.Lists.{at_longer, at_map}
use Rattle.turn_book.specs.declared.view.View.{View}
use Rattle.turn_book.specs.declared.view.Met.{Met}
use Rattle.etp_values.specs.Rising.{Rises}
use Rattle.turn_book.specs.Lists.{Each, occurrences, longer, own, without_each, own_places}
use Rattle.turn_book.specs.Rules.{IsSettled, IsMine, numbers_of, numbers, IsDated, Fits, IsApart, Sound}
use Rattle.turn_book.specs.Steps.{first_view, fresh_view, marked, hearing, number_or, grown, IsOwn, met_of, joined, IsOwnSeen}
use Rattle.etp_values.proofs.PrefixLemmas.{prefix_self, prefix_trans, prefix_shorter, prefix_length, prefix_get, prefix_snoc, prefix_grown}
use Rattle.etp_values.proofs.RisingLemmas.{rises_snoc, rises_wider}
use Rattle.turn_book.proofs.ListLemmas.{occurrences_append, each_append, each_snoc, each_right, each_none, each_two, rises_each}
use Rattle.turn_book.proofs.OwnLemmas.{own_other, own_between}
use Rattle.turn_book.proofs.PlaceLemmas.{without_nil, own_places_same, places_marked, places_own, places_new, get_last, dated_marked, dated_grown, dated_own, dated_seen}

-- the numbers that were met
abbrev pub mets : {E F : Type 0} → View E F → List ℕ
mets v = map (λ m. m.number) v.met

longer_if : {E : Type 0} (xs ys log : List E) → IsPrefix xs log → IsPrefix ys log → (b : Bool) → leb (length ys) (length xs) ≡ b → IsPrefix xs (cond b xs ys) × IsPrefix ys (cond b xs ys) × IsPrefix (cond b xs ys) log
longer_if xs ys log p q true is = (prefix_self xs, prefix_shorter ys xs log q p (grind (arith, nat_tests)), p)
longer_if xs ys log p q false is = (prefix_shorter xs ys log p q (grind (arith, nat_tests)), prefix_self ys, q)

longer_of : {E : Type 0} (xs ys log : List E) → IsPrefix xs log → IsPrefix ys log → IsPrefix xs (longer xs ys) × IsPrefix ys (longer xs ys) × IsPrefix (longer xs ys) log
longer_of xs ys log p q = longer_if xs ys log p q (leb (length ys) (length xs)) refl

mets_of : {E : Type 0} (k : Option ℕ) (seen : List E) (places heard : List ℕ) → map (λ (m : Met E). m.number) (met_of k seen places heard) ≡ numbers_of k
mets_of None seen places heard = refl
mets_of (Some n) seen places heard = refl

at_mapped : {E : Type 0} (ms : List (Met E)) (i n : ℕ) → get_elem? (map (λ m. m.number) ms) i ≡ some n → (m : Met E) × (get_elem? ms i ≡ some m) × (m.number ≡ n)
at_mapped [] i n at = absurd (some-ne-none n (sym at))
at_mapped (m ∷ ms) zero n at = (m, refl, some-injective m.number n at)
at_mapped (m ∷ ms) (suc i) n at = at_mapped ms i n at

module _ {E : Type 0} (by : E → ℕ) (enters : E → Bool) where
  -- a settled number, seen as far as the journal goes
  number_whole : (log : List E) (k : Option ℕ) (seen : List E) → IsPrefix seen log → IfSome k (λ n. IsSettled by enters log n seen) → IfSome k (λ n. IsSettled by enters log n log)
  number_whole log None seen pre t = tt
  number_whole log (Some n) seen pre t = record { entry = t.entry; place = prefix_get seen log n t.entry pre t.place; entering = t.entering; writer = t.writer; own = refl }

  pub own_seen : (log : List E) (k : Option ℕ) (seen : List E) → IfSome k (λ n. IsSettled by enters log n seen) → IsOwnSeen by k seen log
  own_seen log None seen t = tt
  own_seen log (Some n) seen t = t.own

  number_seen : (log : List E) (k : Option ℕ) (seen : List E) → IfSome k (λ n. IsSettled by enters log n seen) → IfSome k (λ n. IsSettled by enters seen n seen)
  number_seen log None seen t = tt
  number_seen log (Some n) seen t = record { entry = t.entry; place = t.place; entering = t.entering; writer = t.writer; own = refl }

  -- an entry of another writer
  settle_other : (log : List E) (n : ℕ) (seen : List E) (e : E) → by e ≢ n → IsSettled by enters log n seen → IsSettled by enters (log ++ e ∷ []) n seen
  settle_other log n seen e ne t = record { entry = t.entry; place = t.place; entering = t.entering; writer = t.writer; own = own_other by n 0 log e ne ∙ t.own }

  number_other : (log : List E) (e : E) (k : Option ℕ) (seen : List E) → Each (λ n. by e ≢ n) (numbers_of k) → IfSome k (λ n. IsSettled by enters log n seen) → IfSome k (λ n. IsSettled by enters (log ++ e ∷ []) n seen)
  number_other log e None seen ne t = tt
  number_other log e (Some n) seen ne t = settle_other log n seen e (ne 0 n refl) t

  -- the writer of an own entry came no later than it
  pub writer_before : (seen : List E) (e : E) (k : Option ℕ) (log : List E) → IsOwn by enters k (length seen) e → IfSome k (λ n. IsSettled by enters log n seen) → by e ≤ length seen
  writer_before seen e None log mine t = let m = mine.0 in omega arith
  writer_before seen e (Some q) log mine t = let within = slice_get_within seen q t.entry t.place in omega arith

  number_grown : (seen : List E) (e : E) (k : Option ℕ) (log : List E) → IsOwn by enters k (length seen) e → IfSome k (λ n. IsSettled by enters log n seen)
      → IfSome (number_or k (length seen)) (λ n. IsSettled by enters (seen ++ e ∷ []) n (seen ++ e ∷ []))
  number_grown seen e None log mine t = record { entry = e; place = get_last seen e; entering = mine.1; writer = mine.0; own = refl }
  number_grown seen e (Some q) log mine t = record { entry = t.entry; place = prefix_get seen (seen ++ e ∷ []) q t.entry (prefix_grown seen e) t.place; entering = t.entering; writer = t.writer; own = refl }

  places_grown : (seen : List E) (e : E) (k : Option ℕ) (marks places : List ℕ) → IsOwn by enters k (length seen) e → Rises 0 places (length seen) → IsDated by seen marks
      → places ≡ without_each (own_places by k seen) marks → places ≡ without_each (own_places by (number_or k (length seen)) (seen ++ e ∷ [])) (marks ++ length seen ∷ [])
  places_grown seen e None marks places mine rises dated is = places_own by (length seen) seen e marks places mine.0 rises (places_new by seen marks places dated is)
  places_grown seen e (Some q) marks places mine rises dated is = places_own by q seen e marks places mine rises is

  met_settled : (log : List E) (k : Option ℕ) (seen all : List E) (places heard : List ℕ) → IsPrefix seen all → IfSome k (λ n. IsSettled by enters log n seen)
      → Each (λ m. IsPrefix m.seen all × IsSettled by enters log m.number m.seen) (met_of k seen places heard)
  met_settled log None seen all places heard pre t i m at = absurd (some-ne-none m (sym at))
  met_settled log (Some n) seen all places heard pre t zero m at = subst (λ (m : Met E). IsPrefix m.seen all × IsSettled by enters log m.number m.seen) (some-injective _ m at) (pre, t)
  met_settled log (Some n) seen all places heard pre t (suc i) m at = absurd (some-ne-none m (sym at))

  number_longer : (log : List E) (k : Option ℕ) (seen all : List E) → IsPrefix seen all → IsPrefix all log → IfSome k (λ n. IsSettled by enters log n seen) → IfSome k (λ n. IsSettled by enters log n all)
  number_longer log None seen all pre post t = tt
  number_longer log (Some n) seen all pre post t = record { entry = t.entry; place = prefix_get seen all n t.entry pre t.place; entering = t.entering; writer = t.writer; own = own_between by n seen all log pre post t.own }

  -- own entries are the same in what was seen and in more
  own_further : (log : List E) (k : Option ℕ) (seen all : List E) → IsPrefix seen all → IsPrefix all log → IfSome k (λ n. IsSettled by enters log n seen) → IfSome k (λ n. own by n all ≡ own by n seen)
  own_further log None seen all pre post t = tt
  own_further log (Some n) seen all pre post t = sym (own_between by n seen all log pre post t.own) ∙ t.own

  settled_below : (log : List E) (n : ℕ) (seen : List E) → IsPrefix seen log → IsSettled by enters log n seen → n < length log
  settled_below log n seen pre t = let a = slice_get_within seen n t.entry t.place in let b = prefix_length seen log pre in omega arith

  number_below : (log : List E) (k : Option ℕ) (seen : List E) → IsPrefix seen log → IfSome k (λ n. IsSettled by enters log n seen) → Each (λ n. n < length log) (numbers_of k)
  number_below log None seen pre t i n at = absurd (some-ne-none n (sym at))
  number_below log (Some q) seen pre t zero n at = subst (λ (x : ℕ). x < length log) (some-injective q n at) (settled_below log q seen pre t)
  number_below log (Some q) seen pre t (suc i) n at = absurd (some-ne-none n (sym at))

module _ {E : Type 0} (by : E → ℕ) where
  -- an entry that gives the seat its number n comes after all that was joined, so n is not a place there
  mine_grown : (seen : List E) (k : Option ℕ) (olds : List (List E)) → Each (λ o. IsPrefix o seen) olds → IfSome k (λ n. IsMine by n olds) → IfSome (number_or k (length seen)) (λ n. IsMine by n olds)
  mine_grown seen None [] pre t = tt
  mine_grown seen None (o ∷ []) pre t = tt
  mine_grown seen None (o ∷ p ∷ []) pre t = λ below. let short = prefix_length o seen (pre 0 o refl) in absurd (omega (arith, below, short))
  mine_grown seen None (o ∷ p ∷ q ∷ more) pre t = tt
  mine_grown seen (Some n) olds pre t = t

  mine_joined : (k : Option ℕ) (seen other : List E) → IfSome k (λ n. own by n (longer seen other) ≡ own by n seen) → IfSome k (λ n. IsMine by n (seen ∷ other ∷ []))
  mine_joined None seen other t = tt
  mine_joined (Some n) seen other t = λ below. t

module _ {E F : Type 0} (by : E → ℕ) (enters : E → Bool) where
  -- who has the turn, and how often it was missed, is no part of what fits
  pub refit : (log : List E) (v : View E F) (h : Option (List E)) (k : ℕ) → Fits by enters log v → Fits by enters log (record v { held = h; missed = k })
  refit log v h k f = record { seen = f.seen; marks = f.marks; heard = f.heard; number = f.number; met = f.met; olds = f.olds; mine = f.mine; dated = f.dated; rises = f.rises; places = f.places }

  pub fit_first : (log : List E) (fixed : F) (e : E) → slice_get log 0 ≡ Some e → enters e ≡ true → by e ≡ 0 → Fits by enters log (first_view log fixed)
  fit_first log fixed e at enter writer = record {
    seen = prefix_self log;
    marks = omega arith;
    heard = each_none (λ n. n ≤ length log);
    number = record { entry = e; place = at; entering = enter; writer = writer; own = refl };
    met = each_none (λ m. IsPrefix m.seen log × IsSettled by enters log m.number m.seen);
    olds = each_none (λ o. IsPrefix o log);
    mine = tt;
    dated = each_none (λ m. IfSome (slice_get log m) (λ e. by e ≤ m));
    rises = omega arith;
    places = sym (without_nil (own_places by (Some 0) log));
  }

  pub fit_fresh : (log seen : List E) (fixed : Option F) → IsPrefix seen log → Fits by enters log (fresh_view fixed seen)
  fit_fresh log seen fixed pre = record {
    seen = pre;
    marks = omega arith;
    heard = each_none (λ n. n ≤ length log);
    number = tt;
    met = each_none (λ m. IsPrefix m.seen seen × IsSettled by enters log m.number m.seen);
    olds = each_none (λ o. IsPrefix o seen);
    mine = tt;
    dated = each_none (λ m. IfSome (slice_get log m) (λ e. by e ≤ m));
    rises = omega arith;
    places = refl;
  }

  pub fit_marked : (log : List E) (n : ℕ) (v : View E F) → n ≡ length log → Fits by enters log v → Fits by enters log (marked log n v)
  fit_marked log n v found f = let short = prefix_length v.seen log f.seen in record {
    seen = prefix_self log;
    marks = rises_snoc 0 v.marks (length v.seen) n (length log) f.marks (omega arith) (omega arith);
    heard = f.heard;
    number = number_whole by enters log v.number v.seen f.seen f.number;
    met = λ i m at. (prefix_trans m.seen v.seen log (f.met i m at).0 f.seen, (f.met i m at).1);
    olds = λ i o at. prefix_trans o v.seen log (f.olds i o at) f.seen;
    mine = f.mine;
    dated = dated_marked by log v.marks n found f.dated;
    rises = rises_snoc 0 v.places (length v.seen) n (length log) f.rises (omega arith) (omega arith);
    places = places_marked by v.number v.seen log v.marks v.places n found (own_seen by enters log v.number v.seen f.number) f.places;
  }

  pub fit_hearing : (log : List E) (n : ℕ) (v : View E F) → n ≡ length log → Fits by enters log v → Fits by enters log (hearing n v)
  fit_hearing log n v found f = record {
    seen = f.seen;
    marks = f.marks;
    heard = each_snoc (λ m. m ≤ length log) v.heard n f.heard (omega arith);
    number = f.number;
    met = f.met;
    olds = f.olds;
    mine = f.mine;
    dated = f.dated;
    rises = f.rises;
    places = f.places;
  }

  -- what a seat may know whatever the journal is
  pub sound : (log : List E) (v : View E F) → Fits by enters log v → IsApart v → Sound by enters v
  sound log v f apart = record {
    fits = record {
      seen = prefix_self v.seen;
      marks = f.marks;
      heard = each_none (λ n. n ≤ length v.seen);
      number = number_seen by enters log v.number v.seen f.number;
      met = λ i m at. let t = (f.met i m at).1 in let p = (f.met i m at).0 in
          (p, record { entry = t.entry; place = t.place; entering = t.entering; writer = t.writer; own = sym (own_between by m.number m.seen v.seen log p f.seen t.own) ∙ t.own });
      olds = f.olds;
      mine = f.mine;
      dated = dated_seen by v.seen log v.marks f.seen f.dated;
      rises = f.rises;
      places = f.places;
    };
    apart = apart;
  }

  -- at a seat that is not the writer
  pub fit_other : (log : List E) (e : E) (v : View E F) → Each (λ n. by e ≢ n) (numbers v) → by e ≤ length log → Fits by enters log v → Fits by enters (log ++ e ∷ []) v
  fit_other log e v ne early f =
      let short = prefix_length v.seen log f.seen in record {
        seen = prefix_snoc v.seen log e f.seen;
        marks = f.marks;
        heard = λ i n at. let h = f.heard i n at in omega (arith, length-append log (e ∷ []));
        number = number_other by enters log e v.number v.seen (λ i n at. ne i n (at_longer (numbers_of v.number) (mets v) i n at)) f.number;
        met = λ i m at. ((f.met i m at).0, settle_other by enters log m.number m.seen e (each_right (λ n. by e ≢ n) (numbers_of v.number) (mets v) ne i m.number (at_map (λ m. m.number) v.met i m at)) (f.met i m at).1);
        olds = f.olds;
        mine = f.mine;
        dated = dated_grown by log e v.marks (rises_each 0 v.marks (length log) (rises_wider 0 v.marks (length v.seen) (length log) f.marks short)) early f.dated;
        rises = f.rises;
        places = f.places;
      }

  -- at its writer, which had seen the whole
  pub fit_grown : (v : View E F) (e : E) → IsOwn by enters v.number (length v.seen) e → Each (λ n. by e ≢ n) (mets v) → Fits by enters v.seen v → Fits by enters (v.seen ++ e ∷ []) (grown e (length v.seen) v)
  fit_grown v e mine ne f =
      let one_more = length-append v.seen (e ∷ []) in
      let early = writer_before by enters v.seen e v.number v.seen mine f.number in record {
        seen = prefix_self (v.seen ++ e ∷ []);
        marks = rises_snoc 0 v.marks (length v.seen) (length v.seen) (length (v.seen ++ e ∷ [])) f.marks (omega arith) (omega arith);
        heard = λ i n at. let h = f.heard i n at in omega arith;
        number = number_grown by enters v.seen e v.number v.seen mine f.number;
        met = λ i m at. (prefix_snoc m.seen v.seen e (f.met i m at).0, settle_other by enters v.seen m.number m.seen e (ne i m.number (at_map (λ m. m.number) v.met i m at)) (f.met i m at).1);
        olds = λ i o at. prefix_snoc o v.seen e (f.olds i o at);
        mine = mine_grown by v.seen v.number v.olds f.olds f.mine;
        dated = dated_own by v.seen e v.marks (rises_each 0 v.marks (length v.seen) f.marks) early f.dated;
        rises = rises_wider 0 v.places (length v.seen) (length (v.seen ++ e ∷ [])) f.rises (omega arith);
        places = places_grown by enters v.seen e v.number v.marks v.places mine f.rises f.dated f.places;
      }

  pub fit_joined : (log : List E) (v w : View E F) → Fits by enters log v → Fits by enters log w → Fits by enters log (joined v w)
  fit_joined log v w f g =
      let l = longer_of v.seen w.seen log f.seen g.seen in
      let all : List E = longer v.seen w.seen in
      let still = own_further by enters log v.number v.seen all l.0 l.2 f.number in
      let more = prefix_length v.seen all l.0 in record {
        seen = l.2;
        marks = rises_wider 0 v.marks (length v.seen) (length all) f.marks more;
        heard = f.heard;
        number = number_longer by enters log v.number v.seen all l.0 l.2 f.number;
        met = let P : Met E → Type 0 = λ m. IsPrefix m.seen all × IsSettled by enters log m.number m.seen in
            each_append P v.met (met_of w.number w.seen w.places w.heard ++ w.met)
            (λ i m at. (prefix_trans m.seen v.seen all (f.met i m at).0 l.0, (f.met i m at).1))
            (each_append P (met_of w.number w.seen w.places w.heard) w.met (met_settled by enters log w.number w.seen all w.places w.heard l.1 g.number)
            (λ i m at. (prefix_trans m.seen w.seen all (g.met i m at).0 l.1, (g.met i m at).1)));
        olds = each_two (λ o. IsPrefix o all) v.seen w.seen l.0 l.1;
        mine = mine_joined by v.number v.seen w.seen still;
        dated = f.dated;
        rises = rises_wider 0 v.places (length v.seen) (length all) f.rises more;
        places = f.places ∙ ap (λ ps. without_each ps v.marks) (sym (own_places_same by v.number v.seen all still));
      }

  -- the numbers of both
  pub count_joined : (n : ℕ) (v w : View E F) → occurrences n (numbers (joined v w)) ≡ occurrences n (numbers v) + occurrences n (numbers w)
  count_joined n v w =
      let e : mets (joined v w) ≡ mets v ++ numbers w = map-append (λ m. m.number) v.met (met_of w.number w.seen w.places w.heard ++ w.met)
      ∙ ap (λ xs. mets v ++ xs) (map-append (λ m. m.number) (met_of w.number w.seen w.places w.heard) w.met ∙ ap (λ xs. xs ++ mets w) (mets_of w.number w.seen w.places w.heard)) in
      let a : occurrences n (numbers (joined v w)) ≡ occurrences n (numbers_of v.number ++ (mets v ++ numbers w)) = ap (λ xs. occurrences n (numbers_of v.number ++ xs)) e in
      let b = occurrences_append n (numbers_of v.number) (mets v ++ numbers w) in
      let c = occurrences_append n (mets v) (numbers w) in
      let d = occurrences_append n (numbers_of v.number) (mets v) in
      omega arith

  pub numbers_below : (log : List E) (v : View E F) → Fits by enters log v → Each (λ n. n < length log) (numbers v)
  numbers_below log v f = each_append (λ n. n < length log) (numbers_of v.number) (mets v) (number_below by enters log v.number v.seen f.seen f.number)
      (λ i n at. let t = at_mapped v.met i n at in let m = f.met i t.0 t.1 in subst (λ (x : ℕ). x < length log) t.2 (settled_below by enters log t.0.number t.0.seen (prefix_trans t.0.seen v.seen log m.0 f.seen) m.1))
