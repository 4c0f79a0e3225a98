-- What a poll counted holds of each longer journal, and the next poll goes on from it.
use Rattle.std.specs.Prelude.{ℕ, zero, suc, min, ◌≡◌, ◌≤◌, ◌<◌, ◌+◌, ◌-◌, ◌^◌, Bool, true, false, cond, List, [], ◌∷◌, ◌++◌, Option, Some, filter, length, slice_get, refl}
use Rattle.std.specs.List.{All}
use Rattle.std.proofs.Common.{get_or, ap, sym, ◌∙◌, subst, arith}
use Rattle.std.proofs.lemmas.List.{length-append}
use Rattle.std.proofs.lemmas.List.Elements.{All-get_or, All-weaker}
use Rattle.channel_store.specs.declared.change.ChannelChange.{ChannelChange}
use Rattle.channel_store.specs.Channels.{Channel}
use Rattle.store_machine.specs.declared.journal.Entry.{Entry}
use Rattle.store_machine.specs.declared.news.Followed.{Followed}
use Rattle.store_machine.specs.declared.watch.Watch.{Watch}
use Rattle.store_machine.specs.News.{is_some_due, lag}
use Rattle.store_machine.specs.Telling.{due_at, dues_at}
use Rattle.store_machine.specs.Watching.{IsCounted, Knows, Suits, due_of, dues_over}

-- ---- lists of channels that are followed

pub same_cons : {X : Type 0} (x y : X) (xs ys ones others : List X) → x ≡ y → xs ≡ ys → ones ≡ x ∷ xs → others ≡ y ∷ ys → ones ≡ others
same_cons x y xs ys ones others head tail one other = one ∙ (λ j. head j ∷ tail j) ∙ sym other

-- ---- a longer journal

get-before : {X : Type 0} (xs : List X) (x : X) (i : ℕ) → i < length xs → slice_get (xs ++ x ∷ []) i ≡ slice_get xs i
get-before [] x i h = absurd (omega (arith, h))
get-before (y ∷ xs) x zero h = refl
get-before (y ∷ xs) x (suc i) h = get-before xs x i (omega (arith, h))

-- the entries that were there are as before
dues-later : (n : ℕ) (fs : List Followed) (history : List Entry) (e : Entry) (place count : ℕ) → place + count ≤ length history → dues_over n fs (history ++ e ∷ []) place count ≡ dues_over n fs history place count
dues-later n fs history e place zero h = refl
dues-later n fs history e place (suc count) h =
    let here : place < length history = omega (arith, h) in
    let later = dues-later n fs history e (place + 1) count (omega (arith, h)) in
    (λ j. due_of n fs place (get-before history e place here j) ∷ later j)

counted-later : (history : List Entry) (e : Entry) (w : Watch) → IsCounted history w → IsCounted (history ++ e ∷ []) w
counted-later history e w c =
    let b = c.begun in
    let within = c.within in
    let longer : length (history ++ e ∷ []) ≡ length history + 1 = length-append history (e ∷ []) in
    let inside : w.from + (w.mark - w.from) ≤ length history = omega (arith, b, within) in
    record {
      begun = b;
      within = omega (arith, within, longer);
      lag = c.lag ∙ ap lag (sym (dues-later w.channels w.followed.items history e w.from (w.mark - w.from) inside));
    }

pub all_later : (history : List Entry) (e : Entry) (ws : List Watch) → All (IsCounted history) ws → All (IsCounted (history ++ e ∷ [])) ws
all_later history e ws h = All-weaker (IsCounted history) (IsCounted (history ++ e ∷ [])) (counted-later history e) ws h

-- ---- what is carried on

-- the entries of a part, and of the next one
dues-parts : (cs : List Channel) (fs : List Followed) (place one other : ℕ) → dues_at cs fs place (one + other) ≡ dues_at cs fs place one ++ dues_at cs fs (place + one) other
dues-parts cs fs place zero other =
    let all : zero + other ≡ other = omega arith in
    let here : place ≡ place + zero = omega arith in
    (λ j. dues_at cs fs (here j) (all j))
dues-parts cs fs place (suc one) other =
    let all : suc one + other ≡ suc (one + other) = omega arith in
    let next : (place + 1) + one ≡ place + suc one = omega arith in
    ap (dues_at cs fs place) all
    ∙ ap (λ l. due_at cs fs place ∷ l) (dues-parts cs fs (place + 1) one other ∙ ap (λ p. dues_at cs fs (place + 1) one ++ dues_at cs fs p other) next)

abbrev ones : Bool → ℕ
ones true = 1
ones false = 0

ones-few : (b : Bool) → ones b ≤ 1
ones-few true = let e : 1 ≤ 1 = omega arith in e
ones-few false = let e : 0 ≤ 1 = omega arith in e

lag-one : (d : List ChannelChange) (ds : List (List ChannelChange)) → lag (d ∷ ds) ≡ ones (is_some_due d) + lag ds
lag-one d ds = by (is_some_due d)
  where
    by : (b : Bool) → length (cond b (d ∷ filter is_some_due ds) (filter is_some_due ds)) ≡ ones b + length (filter is_some_due ds)
    by true = let e : suc (length (filter is_some_due ds)) ≡ 1 + length (filter is_some_due ds) = omega arith in e
    by false = let e : length (filter is_some_due ds) ≡ 0 + length (filter is_some_due ds) = omega arith in e

lag-parts : (xs ys : List (List ChannelChange)) → lag (xs ++ ys) ≡ lag xs + lag ys
lag-parts [] ys = omega arith
lag-parts (d ∷ xs) ys =
    let rest = lag-parts xs ys in
    let whole : lag ((d ∷ xs) ++ ys) ≡ ones (is_some_due d) + lag (xs ++ ys) = lag-one d (xs ++ ys) in
    let one = lag-one d xs in
    omega (arith, rest, whole, one)

-- no more entries have due changes than there are
lag-within : (cs : List Channel) (fs : List Followed) (place count : ℕ) → lag (dues_at cs fs place count) ≤ count
lag-within cs fs place zero = omega arith
lag-within cs fs place (suc count) =
    let rest = lag-within cs fs (place + 1) count in
    let one : lag (dues_at cs fs place (suc count)) ≡ ones (is_some_due (due_at cs fs place)) + lag (dues_at cs fs (place + 1) count) = lag-one (due_at cs fs place) (dues_at cs fs (place + 1) count) in
    let few = ones-few (is_some_due (due_at cs fs place)) in
    omega (arith, rest, one, few)

-- from the first of three places to the third
lag-split : (cs : List Channel) (fs : List Followed) (a b c : ℕ) → a ≤ b → b ≤ c → lag (dues_at cs fs a (c - a)) ≡ lag (dues_at cs fs a (b - a)) + lag (dues_at cs fs b (c - b))
lag-split cs fs a b c ab bc =
    let all : c - a ≡ (b - a) + (c - b) = omega (arith, ab, bc) in
    let there : a + (b - a) ≡ b = omega (arith, ab) in
    ap (λ n. lag (dues_at cs fs a n)) all ∙ ap lag (dues-parts cs fs a (b - a) (c - b)) ∙ lag-parts (dues_at cs fs a (b - a)) (dues_at cs fs (a + (b - a)) (c - b))
    ∙ ap (λ p. lag (dues_at cs fs a (b - a)) + lag (dues_at cs fs p (c - b))) there

-- what was counted, without what was passed, and with what was added
pub carried_on : (cs : List Channel) (fs : List Followed) (first from last mark counted passed added left whole : ℕ) → first ≤ from → from ≤ last → last ≤ mark → mark < 2 ^ 64
    → counted ≡ lag (dues_at cs fs first (last - first)) → passed ≡ lag (dues_at cs fs first (from - first)) → added ≡ lag (dues_at cs fs last (mark - last))
    → left ≡ counted - passed → whole ≡ min (left + added) (2 ^ 64 - 1) → whole ≡ lag (dues_at cs fs from (mark - from))
carried_on cs fs first from last mark counted passed added left whole begun inside within fits c p a l w =
    let before = lag-split cs fs first from last begun inside in
    let after = lag-split cs fs from last mark inside within in
    let few = lag-within cs fs from (mark - from) in
    omega (arith, begun, inside, within, fits, c, p, a, l, w, before, after, few)

-- what the watch at a place says
pub known_there : (cs : List Channel) (n : ℕ) (fs : List Followed) (from mark : ℕ) (ws : List Watch) (k : ℕ) (w : Watch) → All (Knows cs n fs) ws → k < length ws → w ≡ get_or ws k w → Suits n fs from mark w
    → w.lag ≡ lag (dues_at cs fs w.from (w.mark - w.from))
known_there cs n fs from mark ws k w all within at suits =
    let knows : Knows cs n fs w = subst (Knows cs n fs) (sym at) (All-get_or (Knows cs n fs) ws k w within all) in
    knows suits.channels suits.followed
