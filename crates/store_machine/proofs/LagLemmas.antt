-- How many entries have due changes, by marks that are set channel by channel.
use Rattle.std.specs.Prelude.{ℕ, zero, suc, ◌≡◌, ◌+◌, ◌-◌, ◌<◌, ◌≤◌, ◌==◌, ◌&&◌, ◌||◌, nat_le, Bool, true, false, cond, List, [], ◌∷◌, ◌++◌, Option, Some, None, if◌then◌else◌, is_some, length, filter, find, replicate, refl}
use Rattle.std.specs.Option.{option_to_list}
use Rattle.std.proofs.Common.{get_or, ap, sym, ◌∙◌, arith}
use Rattle.std.proofs.lemmas.List.{length-replicate}
use Rattle.std.proofs.Math.Bool.{or-false}
use Rattle.channel_store.specs.declared.change.ChannelChange.{ChannelChange}
use Rattle.channel_store.specs.Channels.{Channel}
use Rattle.channel_store.specs.Marks.{marked}
use Rattle.channel_store.specs.Store.{changes_at}
use Rattle.store_machine.specs.declared.news.Followed.{Followed}
use Rattle.store_machine.specs.News.{is_some_due, lag}
use Rattle.store_machine.specs.Telling.{due_at, dues_at, marked_by, marks_at, set_marks}
use Rattle.store_machine.specs.Watching.{Looks}
use Rattle.store_machine.specs.declared.news.Window.{Window}

-- ---- the marks of all channels

-- the marks that were set, and those of the entries with due changes, entry by entry
abbrev with_due : List Channel → List Followed → ℕ → List Bool → List Bool
with_due cs fs place [] = []
with_due cs fs place (b ∷ bs) = (b || is_some_due (due_at cs fs place)) ∷ with_due cs fs (place + 1) bs

or-assoc : (a b c : Bool) → ((a || b) || c) ≡ (a || (b || c))
or-assoc true b c = refl
or-assoc false b c = refl

-- the first channel's change at a place, or those of the others
any-due : (a : Bool) (o : Option ChannelChange) (ds : List ChannelChange) → ((a && is_some o) || is_some_due ds) ≡ is_some_due (option_to_list (if a then o else None) ++ ds)
any-due true None ds = refl
any-due true (Some c) ds = refl
any-due false o ds = refl

nobody : (cs : List Channel) (place : ℕ) (bs : List Bool) → with_due cs [] place bs ≡ bs
nobody cs place [] = refl
nobody cs place (b ∷ bs) = (λ j. or-false b j ∷ nobody cs (place + 1) bs j)

one-more : (cs : List Channel) (f : Followed) (fs : List Followed) (place : ℕ) (bs : List Bool) → with_due cs fs place (marked f.from place (changes_at cs f.channel) bs) ≡ with_due cs (f ∷ fs) place bs
one-more cs f fs place [] = refl
one-more cs f fs place (b ∷ bs) = (λ j. head j ∷ one-more cs f fs (place + 1) bs j)
  where
    found : Option ChannelChange
    found = find (λ (x : ChannelChange). x.place == place) (changes_at cs f.channel)

    head : ((b || (nat_le f.from place && is_some found)) || is_some_due (due_at cs fs place)) ≡ (b || is_some_due (option_to_list (if nat_le f.from place then found else None) ++ due_at cs fs place))
    head = or-assoc b (nat_le f.from place && is_some found) (is_some_due (due_at cs fs place)) ∙ ap (λ t. b || t) (any-due (nat_le f.from place) found (due_at cs fs place))

marked-due : (cs : List Channel) (fs : List Followed) (place : ℕ) (bs : List Bool) → marked_by cs fs place bs ≡ with_due cs fs place bs
marked-due cs [] place bs = sym (nobody cs place bs)
marked-due cs (f ∷ fs) place bs = marked-due cs fs place (marked f.from place (changes_at cs f.channel) bs) ∙ one-more cs f fs place bs

-- ---- their number

lag-next : (d : List ChannelChange) (ds : List (List ChannelChange)) (count : ℕ) → count ≡ lag ds → (if is_some_due d then suc count else count) ≡ lag (d ∷ ds)
lag-next d ds count h = by (is_some_due d)
  where
    by : (b : Bool) → (if b then suc count else count) ≡ length (cond b (d ∷ filter is_some_due ds) (filter is_some_due ds))
    by true = ap suc h
    by false = h

count-due : (cs : List Channel) (fs : List Followed) (place count : ℕ) → set_marks (with_due cs fs place (replicate count false)) ≡ lag (dues_at cs fs place count)
count-due cs fs place zero = refl
count-due cs fs place (suc count) =
    lag-next (due_at cs fs place) (dues_at cs fs (place + 1) count) (set_marks (with_due cs fs (place + 1) (replicate count false))) (count-due cs fs (place + 1) count)

-- what is counted of the marks of this many entries
pub lag_marked : (cs : List Channel) (fs : List Followed) (place count lags : ℕ) (marks : List Bool) → marks ≡ marks_at cs fs place count → lags ≡ set_marks marks → lags ≡ lag (dues_at cs fs place count)
lag_marked cs fs place count lags marks same is =
    is ∙ ap set_marks (same ∙ marked-due cs fs place (replicate count false)) ∙ count-due cs fs place count

-- ---- each mark

mark-there : (cs : List Channel) (fs : List Followed) (place count k : ℕ) (d : Bool) → k < count → get_or (with_due cs fs place (replicate count false)) k d ≡ is_some_due (due_at cs fs (place + k))
mark-there cs fs place zero k d h = absurd (omega (arith, h))
mark-there cs fs place (suc count) zero d h = let here : place ≡ place + 0 = omega arith in ap (λ p. is_some_due (due_at cs fs p)) here
mark-there cs fs place (suc count) (suc k) d h =
    let there : (place + 1) + k ≡ place + suc k = omega arith in
    mark-there cs fs (place + 1) count k d (omega (arith, h)) ∙ ap (λ p. is_some_due (due_at cs fs p)) there

-- the mark of an entry says whether something is due
pub mark_is : (cs : List Channel) (fs : List Followed) (place from mark : ℕ) (marks : List Bool) (d : Bool) → marks ≡ marks_at cs fs place (mark - place) → place ≤ from → from < mark
    → get_or marks (from - place) d ≡ is_some_due (due_at cs fs from)
mark_is cs fs place from mark marks d same begun within =
    let there : place + (from - place) ≡ from = omega (arith, begun) in
    ap (λ l. get_or l (from - place) d) (same ∙ marked-due cs fs place (replicate (mark - place) false))
    ∙ mark-there cs fs place (mark - place) (from - place) d (omega (arith, begun, within))
    ∙ ap (λ p. is_some_due (due_at cs fs p)) there

with_due-length : (cs : List Channel) (fs : List Followed) (place : ℕ) (bs : List Bool) → length (with_due cs fs place bs) ≡ length bs
with_due-length cs fs place [] = refl
with_due-length cs fs place (b ∷ bs) = ap suc (with_due-length cs fs (place + 1) bs)

-- there are as many marks as entries
pub marks_length : (cs : List Channel) (fs : List Followed) (place count : ℕ) (marks : List Bool) → marks ≡ marks_at cs fs place count → length marks ≡ count
marks_length cs fs place count marks same =
    ap length (same ∙ marked-due cs fs place (replicate count false)) ∙ with_due-length cs fs place (replicate count false) ∙ length-replicate count false

-- the marks of no entries
pub looks_none : (cs : List Channel) (fs : List Followed) (place : ℕ) (w : Window) → w.first ≡ place → w.end ≡ place → w.marks.items ≡ [] → Looks cs fs w
looks_none cs fs place w first end none =
    let nothing : w.end - w.first ≡ 0 = omega (arith, first, end) in
    record { ordered = omega (arith, first, end); marks = none ∙ sym (marked-due cs fs w.first []) ∙ ap (marks_at cs fs w.first) (sym nothing) }

-- ---- if there is nothing to count

pub lag_nobody : (cs : List Channel) (fs : List Followed) (place count : ℕ) → length fs ≡ 0 → 0 ≡ lag (dues_at cs fs place count)
lag_nobody cs [] place zero h = refl
lag_nobody cs [] place (suc count) h = lag_nobody cs [] (place + 1) count h
lag_nobody cs (f ∷ fs) place count h = absurd (omega (arith, h))

pub lag_nothing : (cs : List Channel) (fs : List Followed) (place mark : ℕ) → place ≡ mark → 0 ≡ lag (dues_at cs fs place (mark - place))
lag_nothing cs fs place mark h =
    let e : mark - place ≡ 0 = omega (arith, h) in
    ap (λ n. lag (dues_at cs fs place n)) (sym e)
