-- Each kind of step keeps the rule.
use Rattle.std.proofs.Common.{◌≡◌, ◌≢◌, ◌==◌, ◌⊎◌, ℕ, zero, suc, ◌+◌, ◌≤◌, ◌<◌, ◌%◌, ◌^◌, Bool, true, eq-eqb, ne_eqb, List, [], ◌∷◌, ◌++◌, length, get_or, set, Option, Some, None, IfSome, slice_get, refl, ap, sym, ◌∙◌, subst, inl, inr, ⊎_elim, arith, length-append, if◌then◌else◌}
use mathlib.Core.Option.{some, none, some-injective, some-ne-none}
use mathlib.Core.Option as maybe
use mathlib.Core.Logic.{dite}
use native.Mathlib.Decide.{ℕ_discrete}
use lib.ListN.{get_elem?}
use lib.Seq.{set-get_or}
use prog.Atomic.{either}
use Rattle.atomic_table.specs.Table.{State, Me, step, Act, keeps, takes, gives, stepped, Allows, Splits, Joins, opening, Valid, carried_after}
use Rattle.atomic_table.proofs.Lists.{at_set, at_longer, set_again, set_else}
use Rattle.turn_book.specs.declared.view.View.{View}
use Rattle.etp_values.specs.Weight.{weigh}
use Rattle.turn_book.specs.Lists.{Each, one_if, occurrences}
use Rattle.turn_book.specs.Rules.{Turn, free, taken, flag, home, held_by, IsAtHome, numbers_of, numbers, Fits, IsApart, Ruled}
use Rattle.turn_book.specs.Laws.{IsFree, IsTaken}
use Rattle.turn_book.specs.Steps.{first_view, fresh_view, holding, released, missing, marked, hearing, number_or, grown, IsOwn, joined, took, gave, published, looked, Sees}
use Rattle.etp_values.proofs.PrefixLemmas.{prefix_length}
use Rattle.turn_book.proofs.ListLemmas.{weigh_set, weigh_at, weigh_two, weigh_none, weigh_append, occurrences_at, occurrences_none, one_if_same, one_if_other, each_right, at_within, at_new}
use Rattle.turn_book.proofs.RuleLemmas.{mets, refit, fit_first, fit_fresh, own_seen, fit_marked, fit_hearing, sound, fit_other, writer_before, fit_grown, fit_joined, count_joined, numbers_below}

-- an element stays there when another is written
there : {X : Type 0} (l : List X) (i j : ℕ) (a b : X) → get_elem? l j ≡ some b → (c : X) × (get_elem? (set l i a) j ≡ some c)
there [] i j a b at = absurd (some-ne-none b (sym at))
there (x ∷ xs) zero zero a b at = (a, refl)
there (x ∷ xs) zero (suc j) a b at = (b, at)
there (x ∷ xs) (suc i) zero a b at = (x, refl)
there (x ∷ xs) (suc i) (suc j) a b at = there xs i j a b at

module _ {B E F : Type 0} (journal : B → List E) (fixed : B → F) (by : E → ℕ) (enters : E → Bool) (key : F) where
  abbrev V : Type 0
  V = View E F

  abbrev St : Type 0
  St = State (Option B) V

  abbrev M : Type 0
  M = Me (Option B) V

  abbrev Rule : St → Type 0
  Rule = Ruled journal fixed by enters key

  abbrev Fit : List E → V → Type 0
  Fit = Fits by enters

  abbrev Home : List E → List V → Turn B → Type 0
  Home = IsAtHome journal fixed key

  abbrev count : ℕ → V → ℕ
  count n v = occurrences n (numbers v)

  -- a fact of each view, after one was changed
  others : (P : ℕ → V → Type 0) (vs : List V) (id : ℕ) (w : V) → P id w → ((j : ℕ) (u : V) → j ≢ id → get_elem? vs j ≡ some u → P j u) → (j : ℕ) (u : V) → get_elem? (set vs id w) j ≡ some u → P j u
  others P vs id w mine rest j u at = ⊎_elim (λ (t : (j ≡ id) × (w ≡ u)). subst (λ (x : ℕ × V). P x.0 x.1) (λ i. (sym t.0 i, t.1 i)) mine)
      (λ (t : (j ≢ id) × (get_elem? vs j ≡ some u)). rest j u t.0 t.1) (at_set vs id j w u at)

  home_stays : (log : List E) (vs : List V) (id : ℕ) (w : V) (turn : Turn B) → Home log vs turn → Home log (set vs id w) turn
  home_stays log vs id w (free b) h = h
  home_stays log vs id w (taken j) h = there vs id j w h.0 h.1

  -- the rule at a new view, journal and turn
  rebuilt : (s : St) (r : Rule s) (id : ℕ) (v w : V) → get_elem? s.views id ≡ some v
      → (words' : List ℕ) (homes' : List (maybe.Option (Option B))) (log' : List E) (turn' : Turn B)
      → words' ≡ flag turn' ∷ length log' ∷ [] → homes' ≡ home turn' ∷ []
      → Home log' (set s.views id w) turn'
      → w.held ≡ held_by turn' log' id
      → ((j : ℕ) (u : V) → j ≢ id → get_elem? s.views j ≡ some u → u.held ≡ held_by turn' log' j)
      → w.fixed ≡ v.fixed
      → Fit log' w
      → ((j : ℕ) (u : V) → j ≢ id → get_elem? s.views j ≡ some u → Fit log' u)
      → ((n : ℕ) → weigh (count n) s.views + count n w ≤ 1 + count n v)
      → Rule record { words = words'; homes = homes'; views = set s.views id w }
  rebuilt s r id v w at words' homes' log' turn' words homes at_home held held_others same_fixed fit fit_others apart = record {
    log = log';
    turn = turn';
    words = words;
    homes = homes;
    at_home = at_home;
    held = others (λ j u. u.held ≡ held_by turn' log' j) s.views id w held held_others;
    fixes = others (λ j u. IfSome u.fixed (λ f. f ≡ key)) s.views id w (subst (λ (o : Option F). IfSome o (λ f. f ≡ key)) (sym same_fixed) (r.fixes id v at)) (λ j u _ found. r.fixes j u found);
    fits = others (λ j u. Fit log' u) s.views id w fit fit_others;
    apart = λ n. let e = weigh_set (count n) s.views id v w at in let a = apart n in omega arith;
  }

  -- a step that leaves the words, the book and the turn
  stays : (s : St) (r : Rule s) (id : ℕ) (v w : V) → get_elem? s.views id ≡ some v → (i : ℕ) → w.held ≡ v.held → w.fixed ≡ v.fixed → Fit r.log w → ((n : ℕ) → count n w ≤ count n v)
      → Rule record { words = set s.words i (get_or s.words i 0); homes = s.homes; views = set s.views id w }
  stays s r id v w at i same same_fixed fit fewer = rebuilt s r id v w at (set s.words i (get_or s.words i 0)) s.homes r.log r.turn (set-get_or s.words i 0 ∙ r.words) r.homes (home_stays r.log s.views id w r.turn r.at_home)
      (same ∙ r.held id v at) (λ j u _ found. r.held j u found) same_fixed fit (λ j u _ found. r.fits j u found) (λ n. let a = r.apart n in let b = fewer n in omega arith)

  -- whoever has a journal has the turn
  held_turn : (turn : Turn B) (log l : List E) (id : ℕ) → Some l ≡ held_by turn log id → (turn ≡ taken id) × (l ≡ log)
  held_turn (free b) log l id e = absurd (cc e)
  held_turn (taken h) log l id e = dite (ℕ_discrete id h)
      (λ same. (ap taken (sym same), let x : Some l ≡ Some log = e ∙ ap (λ (b : Bool). if b then Some log else None) (eq-eqb id h same) in cc x))
      (λ other. let x : Some l ≡ None = e ∙ ap (λ (b : Bool). if b then Some log else None) (ne_eqb id h other) in absurd (cc x))

  pub my_turn : (s : St) (r : Rule s) (id : ℕ) (v : V) (l : List E) → get_elem? s.views id ≡ some v → v.held ≡ Some l → (r.turn ≡ taken id) × (l ≡ r.log)
  my_turn s r id v l at held = held_turn r.turn r.log l id (sym held ∙ r.held id v at)

  -- the others have no journal
  no_turn : (log : List E) (id j : ℕ) → j ≢ id → held_by {B = B} (taken id) log j ≡ None
  no_turn log id j ne = ap (λ (b : Bool). if b then Some log else None) (ne_eqb j id ne)

  have_turn : (log : List E) (id : ℕ) → held_by {B = B} (taken id) log id ≡ Some log
  have_turn log id = ap (λ (b : Bool). if b then Some log else None) (eq-eqb id id refl)

  -- Who has the turn in a state

  with_one_at : (s : St) (r : Rule s) (turn : Turn B) → r.turn ≡ turn → IsFree journal fixed key s ⊎ IsTaken s
  with_one_at s r (free b) is =
      let here : Home r.log s.views (free b) = subst (Home r.log s.views) is r.at_home in
      inl record {
        book = b;
        words = r.words ∙ (let back = sym here.0 in λ i. flag (is i) ∷ length (back i) ∷ []);
        home = r.homes ∙ ap (λ (t : Turn B). home t ∷ []) is;
        fixed_is = here.1;
        nobody = λ i v at. r.held i v at ∙ ap (λ (t : Turn B). held_by t r.log i) is;
      }
  with_one_at s r (taken h) is =
      let here : Home r.log s.views (taken h) = subst (Home r.log s.views) is r.at_home in
      inr record {
        log = r.log;
        place = h;
        view = here.0;
        words = r.words ∙ ap (λ (t : Turn B). flag t ∷ length r.log ∷ []) is;
        out = r.homes ∙ ap (λ (t : Turn B). home t ∷ []) is;
        there = here.1;
        held = r.held h here.0 here.1 ∙ (ap (λ (t : Turn B). held_by t r.log h) is ∙ have_turn r.log h);
        others = λ i v ne at. r.held i v at ∙ (ap (λ (t : Turn B). held_by t r.log i) is ∙ no_turn r.log h i ne);
      }

  pub turn_with_one : (s : St) → Rule s → IsFree journal fixed key s ⊎ IsTaken s
  turn_with_one s r = with_one_at s r r.turn refl

  -- The first state

  pub opens : (b : B) (e : E) → fixed b ≡ key → slice_get (journal b) 0 ≡ Some e → enters e ≡ true → by e ≡ 0 → Rule (opening (0 ∷ length (journal b) ∷ []) (Some b ∷ []) (first_view (journal b) (fixed b)))
  opens b e same at enter writer = record {
    log = journal b;
    turn = free b;
    words = refl;
    homes = refl;
    at_home = (refl, same);
    held = elim [ zero ↦ λ v found. ap (λ (u : V). u.held) (sym (some-injective _ v found)) | suc j ↦ λ v found. absurd (some-ne-none v (sym found)) ];
    fixes = elim [ zero ↦ λ v found. subst (λ (u : V). IfSome u.fixed (λ f. f ≡ key)) (some-injective _ v found) same | suc j ↦ λ v found. absurd (some-ne-none v (sym found)) ];
    fits = elim [ zero ↦ λ v found. subst (Fit (journal b)) (some-injective _ v found) (fit_first by enters (journal b) (fixed b) e at enter writer) | suc j ↦ λ v found. absurd (some-ne-none v (sym found)) ];
    apart = λ n. dite (ℕ_discrete 0 n) (λ e. let t = one_if_same n 0 e in omega arith) (λ e. let t = one_if_other n 0 e in omega arith);
  }

  apart_at : (s : St) (r : Rule s) (id : ℕ) (v : V) → get_elem? s.views id ≡ some v → IsApart v
  apart_at s r id v at n = let a = r.apart n in let b = weigh_at (count n) s.views id v at in omega arith

  -- what a seat may do at a step, when the table is s
  abbrev Goes : ℕ → ℕ → M → (ℕ → ℕ) → (ℕ → M → Type 0) → St → Type 0
  Goes i id me f tells s = (w : V) × (a : Act (Option B)) × Valid s.homes me.1 a × Rule (stepped s i (f (get_or s.words i 0)) id me.1 w a) × tells (get_or s.words i 0) (w, carried_after me.1 a)

  -- Taking the turn

  take_at : (slots id : ℕ) (v : V) → v.held ≡ None → (s : St) (r : Rule s) → get_elem? s.views id ≡ some v → (turn : Turn B) → r.turn ≡ turn
      → Goes 0 id (v, []) (λ n. either (n == 0) 1 n) (took journal fixed by enters (step slots 0 0 1 none) (v, [])) s
  take_at slots id v idle s r at (free b) is =
      let words : s.words ≡ 0 ∷ length r.log ∷ [] = r.words ∙ ap (λ (t : Turn B). flag t ∷ length r.log ∷ []) is in
      let homes : s.homes ≡ some (Some b) ∷ [] = r.homes ∙ ap (λ (t : Turn B). home t ∷ []) is in
      let here : Home r.log s.views (free b) = subst (Home r.log s.views) is r.at_home in
      let zero_found : get_or s.words 0 0 ≡ 0 = ap (λ (ws : List ℕ). get_or ws 0 0) words in
      let w : V = holding (journal b) v in
      let n' : ℕ = either (get_or s.words 0 0 == 0) 1 (get_or s.words 0 0) in
      let one : n' ≡ 1 = ap (λ (n : ℕ). either (n == 0) 1 n) zero_found in
      let fit : Fit r.log v = r.fits id v at in (
        w,
        takes 0 (Some b),
        ap (λ (hs : List (maybe.Option (Option B))). get_elem? hs 0) homes,
        rebuilt s r id v w at (set s.words 0 n') (set s.homes 0 none) r.log (taken id)
            (λ i. set (words i) 0 (one i))
            (ap (λ (hs : List (maybe.Option (Option B))). set hs 0 none) homes)
            (there s.views id id w v at)
            (ap Some here.0 ∙ sym (have_turn r.log id))
            (λ j u ne found. r.held j u found ∙ (ap (λ (t : Turn B). held_by t r.log j) is ∙ sym (no_turn r.log id j ne)))
            refl
            (refit by enters r.log v (Some (journal b)) v.missed fit)
            (λ j u _ found. r.fits j u found)
            (λ n. let a = r.apart n in omega arith),
        (
          (λ _. (
            b,
            refl,
            subst (λ (k : F). IfSome v.fixed (λ f. f ≡ k)) (sym here.1) (r.fixes id v at),
            record { fits = subst (λ (l : List E). Fit l v) (sym here.0) fit; apart = apart_at s r id v at },
          )),
          λ miss. absurd (miss zero_found),
        ),
      )
  take_at slots id v idle s r at (taken h) is =
      let words : s.words ≡ 1 ∷ length r.log ∷ [] = r.words ∙ ap (λ (t : Turn B). flag t ∷ length r.log ∷ []) is in
      let one_found : get_or s.words 0 0 ≡ 1 = ap (λ (ws : List ℕ). get_or ws 0 0) words in
      let w : V = missing v in
      let same : either (get_or s.words 0 0 == 0) 1 (get_or s.words 0 0) ≡ get_or s.words 0 0 = ap (λ (n : ℕ). either (n == 0) 1 n) one_found ∙ sym one_found in
      let fit : Fit r.log v = r.fits id v at in (
        w,
        keeps,
        tt,
        subst (λ (n : ℕ). Rule record { words = set s.words 0 n; homes = s.homes; views = set s.views id w }) (sym same) (stays s r id v w at 0 refl refl (refit by enters r.log v v.held (v.missed + 1) fit) (λ n. omega arith)),
        ((λ hit. absurd (let x : 1 ≡ 0 = sym one_found ∙ hit in cc x)), λ _. (one_found, refl)),
      )

  takes_turn : (slots id : ℕ) (v : V) → v.held ≡ None → Allows Rule slots id (v, []) 0 (λ n. either (n == 0) 1 n) (took journal fixed by enters (step slots 0 0 1 none) (v, []))
  takes_turn slots id v idle s r deep at small = take_at slots id v idle s r at r.turn refl

  pub takes_turn_at : (slots id : ℕ) (me : M) → me.1 ≡ [] → me.0.held ≡ None → Allows Rule slots id me 0 (λ n. either (n == 0) 1 n) (took journal fixed by enters (step slots 0 0 1 none) me)
  takes_turn_at slots id me bare idle = subst (λ (c : List (ℕ × Option B)). Allows Rule slots id (me.0, c) 0 (λ n. either (n == 0) 1 n) (took journal fixed by enters (step slots 0 0 1 none) (me.0, c))) (sym bare) (takes_turn slots id me.0 idle)

  -- Giving it back

  give_at : (slots id : ℕ) (v : V) (b : B) → v.held ≡ Some (journal b) → fixed b ≡ key → (s : St) (r : Rule s) → get_elem? s.views id ≡ some v → r.turn ≡ taken id → journal b ≡ r.log
      → Goes 0 id (v, (0, Some b) ∷ []) (λ _. 0) (λ _. gave by enters (step slots 0 0 0 none) (v, (0, Some b) ∷ []) 0) s
  give_at slots id v b held same s r at is log =
      let words : s.words ≡ 1 ∷ length r.log ∷ [] = r.words ∙ ap (λ (t : Turn B). flag t ∷ length r.log ∷ []) is in
      let homes : s.homes ≡ none ∷ [] = r.homes ∙ ap (λ (t : Turn B). home t ∷ []) is in
      let w : V = released v in (
        w,
        gives,
        tt,
        rebuilt s r id v w at (set s.words 0 0) (set s.homes 0 (some (Some b))) r.log (free b)
            (ap (λ (ws : List ℕ). set ws 0 0) words)
            (ap (λ (hs : List (maybe.Option (Option B))). set hs 0 (some (Some b))) homes)
            (log, same)
            refl
            (λ j u ne found. r.held j u found ∙ (ap (λ (t : Turn B). held_by t r.log j) is ∙ no_turn r.log id j ne))
            refl
            (refit by enters r.log v None v.missed (r.fits id v at))
            (λ j u _ found. r.fits j u found)
            (λ n. let a = r.apart n in omega arith),
        (
          refl,
          λ l is. let whole : r.log ≡ l = sym log ∙ (let x : Some (journal b) ≡ Some l = sym held ∙ is in cc x) in
              record { fits = subst (λ (l : List E). Fit l w) whole (refit by enters r.log v None v.missed (r.fits id v at)); apart = apart_at s r id v at },
        ),
      )

  gives_turn : (slots id : ℕ) (v : V) (b : B) → v.held ≡ Some (journal b) → fixed b ≡ key → Allows Rule slots id (v, (0, Some b) ∷ []) 0 (λ _. 0) (λ _. gave by enters (step slots 0 0 0 none) (v, (0, Some b) ∷ []) 0)
  gives_turn slots id v b held same s r deep at small = let t = my_turn s r id v (journal b) at held in give_at slots id v b held same s r at t.0 t.1

  pub gives_turn_at : (slots id : ℕ) (me : M) (b : B) → me.1 ≡ (0, Some b) ∷ [] → me.0.held ≡ Some (journal b) → fixed b ≡ key → Allows Rule slots id me 0 (λ _. 0) (λ _. gave by enters (step slots 0 0 0 none) me 0)
  gives_turn_at slots id me b bare held same = subst (λ (c : List (ℕ × Option B)). Allows Rule slots id (me.0, c) 0 (λ _. 0) (λ _. gave by enters (step slots 0 0 0 none) (me.0, c) 0)) (sym bare) (gives_turn slots id me.0 b held same)

  -- Looking at the journal's length

  look_at : (slots id : ℕ) (me : M) (s : St) (r : Rule s) → get_elem? s.views id ≡ some me.0 → (h : Option (List E)) → me.0.held ≡ h → Goes 1 id me (λ n. n) (looked by enters (step slots 1 0 0 none) me) s
  look_at slots id me s r at None idle =
      let found : get_or s.words 1 0 ≡ length r.log = ap (λ (ws : List ℕ). get_or ws 1 0) r.words in
      let fit : Fit r.log me.0 = r.fits id me.0 at in
      let short = prefix_length me.0.seen r.log fit.seen in
      let n : ℕ = get_or s.words 1 0 in
      let fit' : Fit r.log (hearing n me.0) = fit_hearing by enters r.log n me.0 found fit in (
        hearing n me.0,
        keeps,
        tt,
        stays s r id me.0 (hearing n me.0) at 1 refl refl fit' (λ n. omega arith),
        (
          refl,
          (λ log is. let x : Some log ≡ None = sym is ∙ idle in absurd (cc x)),
          λ _. record { least = omega arith; view = refl; sound = sound by enters r.log (hearing n me.0) fit' (apart_at s r id me.0 at) },
        ),
      )
  look_at slots id me s r at (Some l) held =
      let found : get_or s.words 1 0 ≡ length r.log = ap (λ (ws : List ℕ). get_or ws 1 0) r.words in
      let fit : Fit r.log me.0 = r.fits id me.0 at in
      let mine = my_turn s r id me.0 l at held in
      let n : ℕ = get_or s.words 1 0 in
      let fit' : Fit r.log (marked r.log n me.0) = fit_marked by enters r.log n me.0 found fit in (
        marked r.log n me.0,
        keeps,
        tt,
        stays s r id me.0 (marked r.log n me.0) at 1 refl refl fit' (λ n. omega arith),
        (
          refl,
          (λ log is. let same : r.log ≡ log = sym mine.1 ∙ (let x : Some l ≡ Some log = sym held ∙ is in cc x) in
              subst (λ (l : List E). Sees by enters l me.0 n (marked r.log n me.0)) same record {
                found = found;
                view = refl;
                before = fit.seen;
                own = own_seen by enters r.log me.0.number me.0.seen fit.number;
                knows = record { fits = fit'; apart = apart_at s r id me.0 at };
              }),
          λ idle. let x : Some l ≡ None = sym held ∙ idle in absurd (cc x),
        ),
      )

  pub looks : (slots id : ℕ) (me : M) → Allows Rule slots id me 1 (λ n. n) (looked by enters (step slots 1 0 0 none) me)
  looks slots id me s r deep at small = look_at slots id me s r at me.0.held refl

  -- Publishing an entry

  -- its writer is not the number of another seat, nor one that another seat met
  strange : (s : St) (r : Rule s) (id : ℕ) (v : V) → get_elem? s.views id ≡ some v → (e : E) (k : Option ℕ) → v.number ≡ k → IsOwn by enters k (length r.log) e
      → (j : ℕ) (u : V) → j ≢ id → get_elem? s.views j ≡ some u → Each (λ n. by e ≢ n) (numbers u)
  strange s r id v at e None none_yet mine j u ne found i n here = let b = numbers_below by enters r.log u (r.fits j u found) i n here in let m = mine.0 in λ is. omega arith
  strange s r id v at e (Some q) is_q mine j u ne found i n here = λ is.
      let a = occurrences_at q (numbers u) i (here ∙ ap some (sym is ∙ mine)) in
      let b = occurrences_at q (numbers v) 0 (ap (λ (k : Option ℕ). get_elem? (numbers_of k ++ mets v) 0) is_q) in
      let two = weigh_two (count q) s.views j id u v ne found at in
      let one = r.apart q in
      omega arith

  -- nor one that this seat met
  strange_met : (s : St) (r : Rule s) (id : ℕ) (v : V) → get_elem? s.views id ≡ some v → (e : E) (k : Option ℕ) → v.number ≡ k → IsOwn by enters k (length r.log) e → Each (λ n. by e ≢ n) (mets v)
  strange_met s r id v at e None none_yet mine i n here =
      let b = each_right (λ n. n < length r.log) (numbers_of v.number) (mets v) (numbers_below by enters r.log v (r.fits id v at)) i n here in let m = mine.0 in λ is. omega arith
  strange_met s r id v at e (Some q) is_q mine i n here = λ is.
      let a = occurrences_at q (mets v) i (here ∙ ap some (sym is ∙ mine)) in
      let split : count q v ≡ one_if q q + occurrences q (mets v) = ap (λ (k : Option ℕ). occurrences q (numbers_of k ++ mets v)) is_q in
      let own_tick = one_if_same q q refl in
      let all = weigh_at (count q) s.views id v at in
      let one = r.apart q in
      omega arith

  none_there : (s : St) (r : Rule s) (n : ℕ) → n ≡ length r.log → weigh (count n) s.views ≡ 0
  none_there s r n is = weigh_none (count n) s.views (λ j u at. occurrences_none n (numbers u) (λ i x found. let b = numbers_below by enters r.log u (r.fits j u at) i x found in λ e. omega arith))

  apart_grown : (s : St) (r : Rule s) (k : Option ℕ) (xs : List ℕ) (len : ℕ) → len ≡ length r.log
      → (n : ℕ) → weigh (count n) s.views + occurrences n (numbers_of (number_or k len) ++ xs) ≤ 1 + occurrences n (numbers_of k ++ xs)
  apart_grown s r (Some q) xs len is n = let a = r.apart n in omega arith
  apart_grown s r None xs len is n = dite (ℕ_discrete len n)
      (λ e. let z = none_there s r n (sym e ∙ is) in let t = one_if_same n len e in omega arith)
      (λ e. let a = r.apart n in let t = one_if_other n len e in omega arith)

  publish_at : (id : ℕ) (v : V) (c : List (ℕ × Option B)) (e : E) (entry : Option E) → entry ≡ Some e → length v.seen + 1 < 2 ^ 64 → IsOwn by enters v.number (length v.seen) e
      → (slots : ℕ) (s : St) (r : Rule s) → get_elem? s.views id ≡ some v → r.turn ≡ taken id → v.seen ≡ r.log
      → Goes 1 id (v, c) (λ n. (n + 1) % 2 ^ 64) (published by enters entry (step slots 1 1 0 none) (v, c)) s
  publish_at id v c e entry said small mine slots s r at is whole =
      let len : ℕ = length v.seen in
      let found : get_or s.words 1 0 ≡ len = ap (λ (ws : List ℕ). get_or ws 1 0) r.words ∙ ap length (sym whole) in
      let words : s.words ≡ 1 ∷ len ∷ [] = r.words ∙ (let back = sym whole in λ i. flag (is i) ∷ length (back i) ∷ []) in
      let n' : ℕ = (get_or s.words 1 0 + 1) % 2 ^ 64 in
      let next : n' ≡ length (v.seen ++ e ∷ []) = omega (arith, found, length-append v.seen (e ∷ [])) in
      let mine' : IsOwn by enters v.number (length r.log) e = subst (λ (l : List E). IsOwn by enters v.number (length l) e) whole mine in
      let fit : Fit v.seen v = subst (λ (l : List E). Fit l v) (sym whole) (r.fits id v at) in
      let early : by e ≤ len = writer_before by enters v.seen e v.number v.seen mine fit.number in
      let early' : by e ≤ length r.log = subst (λ (l : List E). by e ≤ length l) whole early in
      let w : V = grown e len v in
      let fit' : Fit (v.seen ++ e ∷ []) w = fit_grown by enters v e mine (strange_met s r id v at e v.number refl mine') fit in (
        grown e (get_or s.words 1 0) v,
        keeps,
        tt,
        subst (λ (n : ℕ). Rule record { words = set s.words 1 n'; homes = s.homes; views = set s.views id (grown e n v) }) (sym found)
            (rebuilt s r id v w at (set s.words 1 n') s.homes (v.seen ++ e ∷ []) (taken id)
            (ap (λ (ws : List ℕ). set ws 1 n') words ∙ ap (λ (n : ℕ). 1 ∷ n ∷ []) next)
            (r.homes ∙ ap (λ (t : Turn B). home t ∷ []) is)
            (there s.views id id w v at)
            (sym (have_turn (v.seen ++ e ∷ []) id))
            (λ j u ne here. r.held j u here ∙ (ap (λ (t : Turn B). held_by t r.log j) is ∙ (no_turn r.log id j ne ∙ sym (no_turn (v.seen ++ e ∷ []) id j ne))))
            refl
            fit'
            (λ j u ne here. subst (λ (l : List E). Fit (l ++ e ∷ []) u) (sym whole) (fit_other by enters r.log e u (strange s r id v at e v.number refl mine' j u ne here) early' (r.fits j u here)))
            (apart_grown s r v.number (mets v) len (ap length whole))),
        λ e' said'. let same : e ≡ e' = (let x : Some e ≡ Some e' = sym said ∙ said' in cc x) in
            (found, ap (λ (x : E). (grown x (get_or s.words 1 0) v, c)) same),
      )

  pub publishes : (slots id : ℕ) (v : V) (c : List (ℕ × Option B)) (e : E) (entry : Option E) → entry ≡ Some e → v.held ≡ Some v.seen → length v.seen + 1 < 2 ^ 64 → IsOwn by enters v.number (length v.seen) e
      → Allows Rule slots id (v, c) 1 (λ n. (n + 1) % 2 ^ 64) (published by enters entry (step slots 1 1 0 none) (v, c))
  publishes slots id v c e entry said held small mine s r deep at range = let t = my_turn s r id v v.seen at held in publish_at id v c e entry said small mine slots s r at t.0 t.1

  -- Splitting a seat

  -- a new seat has no number
  split_sum : (n : ℕ) (vs : List V) (u : V) → count n u ≡ 0 → weigh (count n) (vs ++ u ∷ []) ≡ weigh (count n) vs
  split_sum n vs u zero_of = let a = weigh_append (count n) vs (u ∷ []) in omega arith

  home_longer : (log : List E) (vs : List V) (u : V) (turn : Turn B) → Home log vs turn → Home log (vs ++ u ∷ []) turn
  home_longer log vs u (free b) h = h
  home_longer log vs u (taken j) h = (h.0, at_longer vs (u ∷ []) j h.0 h.1)

  -- nobody is past the last seat
  held_new : (turn : Turn B) (log : List E) (vs : List V) → Home log vs turn → (j : ℕ) → length vs ≡ j → held_by turn log j ≡ None
  held_new (free b) log vs h j past = refl
  held_new (taken h) log vs here j past = ap (λ (b : Bool). if b then Some log else None) (ne_eqb j h (λ e. let a = at_within vs h here.0 here.1 in omega arith))

  pub splits : (id : ℕ) (v : V) → Splits Rule id v v (fresh_view v.fixed v.seen)
  splits id v s r at =
      let u : V = fresh_view v.fixed v.seen in
      subst (λ (vs : List V). Rule record { words = s.words; homes = s.homes; views = vs ++ u ∷ [] }) (sym (set_again s.views id v at)) record {
        log = r.log;
        turn = r.turn;
        words = r.words;
        homes = r.homes;
        at_home = home_longer r.log s.views u r.turn r.at_home;
        held = at_new (λ j w. w.held ≡ held_by r.turn r.log j) s.views u (sym (held_new r.turn r.log s.views r.at_home (length s.views) refl)) r.held;
        fixes = at_new (λ j w. IfSome w.fixed (λ f. f ≡ key)) s.views u (r.fixes id v at) r.fixes;
        fits = at_new (λ j w. Fit r.log w) s.views u (fit_fresh by enters r.log v.seen v.fixed (r.fits id v at).seen) r.fits;
        apart = λ n. let a = r.apart n in let b = split_sum n s.views u refl in omega arith;
      }

  -- Joining two

  both_at : (id : ℕ) (v : V) (other : ℕ) (w : V) → v.held ≡ None → w.held ≡ None → (s : St) (r : Rule s) → get_elem? s.views id ≡ some v → ¬ (other ≡ id) → get_elem? s.views other ≡ some w
      → Rule record { words = s.words; homes = s.homes; views = set (set s.views id (joined v w)) other (fresh_view None []) }
  both_at id v other w idle idle' s r at ne found =
      let spent : V = fresh_view None [] in
      let both : V = joined v w in
      let vs : List V = set s.views id both in
      record {
        log = r.log;
        turn = r.turn;
        words = r.words;
        homes = r.homes;
        at_home = home_stays r.log vs other spent r.turn (home_stays r.log s.views id both r.turn r.at_home);
        held = others (λ j u. u.held ≡ held_by r.turn r.log j) vs other spent (sym idle' ∙ r.held other w found)
            (λ j u _ here. others (λ j u. u.held ≡ held_by r.turn r.log j) s.views id both (r.held id v at) (λ j u _ here. r.held j u here) j u here);
        fixes = others (λ j u. IfSome u.fixed (λ f. f ≡ key)) vs other spent tt
            (λ j u _ here. others (λ j u. IfSome u.fixed (λ f. f ≡ key)) s.views id both (r.fixes id v at) (λ j u _ here. r.fixes j u here) j u here);
        fits = others (λ j u. Fit r.log u) vs other spent (fit_fresh by enters r.log [] None (r.log, refl))
            (λ j u _ here. others (λ j u. Fit r.log u) s.views id both (fit_joined by enters r.log v w (r.fits id v at) (r.fits other w found)) (λ j u _ here. r.fits j u here) j u here);
        apart = λ n.
            let a = r.apart n in
            let b = weigh_set (count n) s.views id v both at in
            let c = weigh_set (count n) vs other w spent (set_else s.views id other both ne ∙ found) in
            let d = count_joined by enters n v w in
            omega arith;
      }

  pub joins : (id : ℕ) (v : V) (other : ℕ) (w : V) → v.held ≡ None → w.held ≡ None → Joins Rule id v other w (joined v w) (fresh_view None [])
  joins id v other w idle idle' s r at ne found = both_at id v other w idle idle' s r at ne (subst (λ (x : maybe.Option V). x ≡ some w) (set_else s.views id other (joined v w) ne) found)
