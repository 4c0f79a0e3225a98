-- The changes that are taken entry by entry.
use Rattle.std.specs.Prelude.{ℕ, zero, suc, ◌≡◌, ◌+◌, ◌-◌, ◌≤◌, ◌<◌, ◌&&◌, ◌||◌, nat_le, nat_lt, Bool, true, false, List, [], ◌∷◌, ◌++◌, if◌then◌else◌, length, refl}
use Rattle.std.proofs.Common.{ap, sym, ◌∙◌, subst, append_assoc, append-nil, arith}
use Rattle.std.proofs.lemmas.Bool.{false≢true}
use Rattle.std.proofs.lemmas.Bool.Decides.{nat_tests}
use Rattle.std.proofs.lemmas.List.{length-append}
use Rattle.etp_values.specs.Weight.{capped, weigh}
use Rattle.etp_values.proofs.WeightLemmas.{capped-sum}
use Rattle.channel_store.specs.declared.change.ChannelChange.{ChannelChange}
use Rattle.channel_store.specs.Channels.{Channel}
use Rattle.channel_store.specs.Told.{change_bytes}
use Rattle.store_machine.specs.declared.news.Followed.{Followed}
use Rattle.store_machine.specs.declared.call.Reply.TheVariants as replied
use Rattle.store_machine.specs.News.{fits_behind, is_some_due, joined, lag, news_by, taken}
use Rattle.store_machine.specs.Telling.{Takes, TakesOn, due_at, dues_at}

-- ---- entry by entry

pub dues_step : (cs : List Channel) (fs : List Followed) (from mark : ℕ) → from < mark → dues_at cs fs from (mark - from) ≡ due_at cs fs from ∷ dues_at cs fs (from + 1) (mark - (from + 1))
dues_step cs fs from mark within = let e : mark - from ≡ suc (mark - (from + 1)) = omega (arith, within) in ap (dues_at cs fs from) e

pub dues_end : (cs : List Channel) (fs : List Followed) (from mark : ℕ) → mark ≤ from → dues_at cs fs from (mark - from) ≡ []
dues_end cs fs from mark past = let e : mark - from ≡ 0 = omega (arith, past) in ap (dues_at cs fs from) e

-- ---- what fits

pub fits_empty : (n b : ℕ) (due : List ChannelChange) → 0 ≡ length due → true ≡ fits_behind n b due
fits_empty n b [] h = refl
fits_empty n b (c ∷ cs) h = absurd (omega (arith, h))

pub fits_first : (b : ℕ) (due : List ChannelChange) → true ≡ fits_behind 0 b due
fits_first b [] = refl
fits_first b (c ∷ cs) = refl

capped-within : (n : ℕ) → nat_le (capped n) 67108864 ≡ nat_le n 67108864
capped-within n = grind (arith, nat_tests)

capped-few : (n : ℕ) → nat_le (capped n) 256 ≡ nat_le n 256
capped-few n = grind (arith, nat_tests)

not_first : (n : ℕ) → (n ≡ 0 → ⊥) → nat_le n 0 ≡ false
not_first n h = grind (arith, nat_tests, h)

-- by numbers, where something was taken and something is due
pub fits_by_numbers : (n count bytes b : ℕ) (due : List ChannelChange) → (n ≡ 0 → ⊥) → (count ≡ 0 → ⊥) → count ≡ length due → bytes ≡ capped (b + weigh change_bytes due)
    → (nat_le (capped (n + count)) 256 && nat_le bytes 67108864) ≡ fits_behind n b due
fits_by_numbers n count bytes b [] some any is sum = absurd (any is)
fits_by_numbers n count bytes b (c ∷ cs) some any is sum =
    let few : nat_le (capped (n + count)) 256 ≡ nat_le (n + length (c ∷ cs)) 256 = capped-few (n + count) ∙ ap (λ k. nat_le (n + k) 256) is in
    let small : nat_le bytes 67108864 ≡ nat_le (b + weigh change_bytes (c ∷ cs)) 67108864 = ap (λ k. nat_le k 67108864) sum ∙ capped-within (b + weigh change_bytes (c ∷ cs)) in
    (λ j. few j && small j) ∙ ap (λ t. t || (nat_le (n + length (c ∷ cs)) 256 && nat_le (b + weigh change_bytes (c ∷ cs)) 67108864)) (sym (not_first n some))

-- ---- what is taken

weigh-append : {X : Type 0} (w : X → ℕ) (xs ys : List X) → weigh w (xs ++ ys) ≡ weigh w xs + weigh w ys
weigh-append w [] ys = omega arith
weigh-append w (x ∷ xs) ys = let rest = weigh-append w xs ys in omega (arith, rest)

-- the bytes of what was taken with what is due
pub bytes_with : (xs due : List ChannelChange) (bytes more : ℕ) → bytes ≡ capped (weigh change_bytes xs) → more ≡ capped (weigh change_bytes due) → capped (bytes + more) ≡ capped (weigh change_bytes xs + weigh change_bytes due)
bytes_with xs due bytes more b m = (λ j. capped (b j + m j)) ∙ capped-sum (weigh change_bytes xs) (weigh change_bytes due)

pub bytes_of : (xs due new : List ChannelChange) (bytes : ℕ) → bytes ≡ capped (weigh change_bytes xs + weigh change_bytes due) → new ≡ xs ++ due → bytes ≡ capped (weigh change_bytes new)
bytes_of xs due new bytes b made = b ∙ ap capped (sym (ap (weigh change_bytes) made ∙ weigh-append change_bytes xs due))

pub bytes_first : (xs : List ChannelChange) (bytes : ℕ) → xs ≡ [] → bytes ≡ 0 → bytes ≡ capped (weigh change_bytes xs)
bytes_first xs bytes none zeroth = zeroth ∙ ap (λ l. capped (weigh change_bytes l)) (sym none)

pub takes_first : (ds : List (List ChannelChange)) (first : ℕ) (xs : List ChannelChange) → xs ≡ [] → TakesOn ds first first xs ds
takes_first ds first xs none = subst (λ l. TakesOn ds first first l ds) (sym none) (record { upto = refl; changes = refl })

taken-one : (n b : ℕ) (d : List ChannelChange) (ds : List (List ChannelChange)) (t : Bool) → fits_behind n b d ≡ t → taken n b (d ∷ ds) ≡ (if t then d ∷ taken (n + length d) (b + weigh change_bytes d) ds else [])
taken-one n b d ds t fits = ap (λ x. if x then d ∷ taken (n + length d) (b + weigh change_bytes d) ds else []) fits

-- the changes of an entry were taken
pub takes_next : (ds : List (List ChannelChange)) (first place : ℕ) (xs due new : List ChannelChange) (rest more : List (List ChannelChange))
    → TakesOn ds first place xs rest → rest ≡ due ∷ more → Takes true due xs new → TakesOn ds first (place + 1) new more
takes_next ds first place xs due new rest more t is takes =
    subst (λ l. TakesOn ds first (place + 1) l more) (sym takes.1)
    (record {
      upto = ap (λ l. (place + 1) + length l) (sym later) ∙ longer (taken (length xs + length due) (weigh change_bytes xs + weigh change_bytes due) more) ∙ ap (λ l. place + length l) (sym here) ∙ t.upto;
      changes = ap (λ l. (xs ++ due) ++ joined l) (sym later) ∙ append_assoc xs due (joined (taken (length xs + length due) (weigh change_bytes xs + weigh change_bytes due) more))
          ∙ ap (λ l. xs ++ joined l) (sym here) ∙ t.changes;
    })
  where
    here : taken (length xs) (weigh change_bytes xs) rest ≡ due ∷ taken (length xs + length due) (weigh change_bytes xs + weigh change_bytes due) more
    here = ap (taken (length xs) (weigh change_bytes xs)) is ∙ taken-one (length xs) (weigh change_bytes xs) due more true takes.0

    later : taken (length xs + length due) (weigh change_bytes xs + weigh change_bytes due) more ≡ taken (length (xs ++ due)) (weigh change_bytes (xs ++ due)) more
    later = (λ j. taken (sym (length-append xs due) j) (sym (weigh-append change_bytes xs due) j) more)

    longer : (l : List (List ChannelChange)) → (place + 1) + length l ≡ place + suc (length l)
    longer l = omega arith

-- as the code knows it
pub takes_none : (due given old : List ChannelChange) → given ≡ due → fits_behind (length old) (weigh change_bytes old) given ≡ false → Takes false due old old
takes_none due given old is fits = (sym (ap (fits_behind (length old) (weigh change_bytes old)) is) ∙ fits, refl)

pub takes_some : (due given old new : List ChannelChange) → given ≡ due → fits_behind (length old) (weigh change_bytes old) given ≡ true → new ≡ old ++ given → Takes true due old new
takes_some due given old new is fits made = (sym (ap (fits_behind (length old) (weigh change_bytes old)) is) ∙ fits, made ∙ ap (λ l. old ++ l) is)

-- an entry without a due change
pub takes_unmarked : (due old : List ChannelChange) → is_some_due due ≡ false → Takes true due old old
takes_unmarked [] old h = (refl, sym (append-nil old))
takes_unmarked (c ∷ cs) old h = absurd (false≢true (sym h))

-- what follows is not taken
ends : (ds : List (List ChannelChange)) (first place : ℕ) (xs : List ChannelChange) (rest : List (List ChannelChange)) → TakesOn ds first place xs rest → taken (length xs) (weigh change_bytes xs) rest ≡ []
    → (place ≡ first + length (taken 0 0 ds)) × (xs ≡ joined (taken 0 0 ds))
ends ds first place xs rest t none =
    let whole : place ≡ place + 0 = omega arith in
    (whole ∙ ap (λ l. place + length l) (sym none) ∙ t.upto, sym (append-nil xs) ∙ ap (λ l. xs ++ joined l) (sym none) ∙ t.changes)

pub takes_stop : (ds : List (List ChannelChange)) (first place : ℕ) (xs due new : List ChannelChange) (rest more : List (List ChannelChange))
    → TakesOn ds first place xs rest → rest ≡ due ∷ more → Takes false due xs new → (place ≡ first + length (taken 0 0 ds)) × (new ≡ joined (taken 0 0 ds))
takes_stop ds first place xs due new rest more t is takes =
    let both = ends ds first place xs rest t (ap (taken (length xs) (weigh change_bytes xs)) is ∙ taken-one (length xs) (weigh change_bytes xs) due more false takes.0) in
    (both.0, takes.1 ∙ both.1)

pub takes_end : (ds : List (List ChannelChange)) (first place : ℕ) (xs : List ChannelChange) (rest : List (List ChannelChange))
    → TakesOn ds first place xs rest → rest ≡ [] → (place ≡ first + length (taken 0 0 ds)) × (xs ≡ joined (taken 0 0 ds))
takes_end ds first place xs rest t none = ends ds first place xs rest t (ap (taken (length xs) (weigh change_bytes xs)) none)

-- ---- the reply

pub news_lagged : (limit from mark count : ℕ) (ds : List (List ChannelChange)) → count ≡ lag ds → limit < count → replied.News mark count [] ≡ news_by limit from mark ds
news_lagged limit from mark count ds is over =
    ap (λ k. replied.News mark k []) is
    ∙ ap (λ b. if b then replied.News mark (lag ds) [] else replied.News (from + length (taken 0 0 ds)) (lag ds) (joined (taken 0 0 ds))) (sym (above limit (lag ds) (subst (λ k. limit < k) is over)))
  where
    above : (a b : ℕ) → a < b → nat_lt a b ≡ true
    above a b h = grind (arith, nat_tests, h)

pub news_told : (limit from mark count upto : ℕ) (ds : List (List ChannelChange)) (changes : List ChannelChange) → count ≡ lag ds → count ≤ limit → upto ≡ from + length (taken 0 0 ds) → changes ≡ joined (taken 0 0 ds)
    → replied.News upto count changes ≡ news_by limit from mark ds
news_told limit from mark count upto ds changes is within at told =
    (λ j. replied.News (at j) (is j) (told j))
    ∙ ap (λ b. if b then replied.News mark (lag ds) [] else replied.News (from + length (taken 0 0 ds)) (lag ds) (joined (taken 0 0 ds))) (sym (below limit (lag ds) (subst (λ k. k ≤ limit) is within)))
  where
    below : (a b : ℕ) → b ≤ a → nat_lt a b ≡ false
    below a b h = grind (arith, nat_tests, h)

-- if nothing is due, all entries are taken and nothing of them
nothing_taken : (n b : ℕ) (ds : List (List ChannelChange)) → lag ds ≡ 0 → (length (taken n b ds) ≡ length ds) × (joined (taken n b ds) ≡ [])
nothing_taken n b [] h = (refl, refl)
nothing_taken n b ([] ∷ ds) h = let rest = nothing_taken (n + 0) (b + 0) ds h in (ap suc rest.0, rest.1)
nothing_taken n b ((c ∷ cs) ∷ ds) h = absurd (omega (arith, h))

dues-length : (cs : List Channel) (fs : List Followed) (place count : ℕ) → length (dues_at cs fs place count) ≡ count
dues-length cs fs place zero = refl
dues-length cs fs place (suc count) = ap suc (dues-length cs fs (place + 1) count)

pub news_untold : (cs : List Channel) (fs : List Followed) (limit from mark : ℕ) → from ≤ mark → 0 ≡ lag (dues_at cs fs from (mark - from)) → replied.News mark 0 [] ≡ news_by limit from mark (dues_at cs fs from (mark - from))
news_untold cs fs limit from mark within none =
    let ds = dues_at cs fs from (mark - from) in
    let all = nothing_taken 0 0 ds (sym none) in
    let upto : mark ≡ from + length (taken 0 0 ds) = omega (arith, within, all.0, dues-length cs fs from (mark - from)) in
    news_told limit from mark 0 mark ds [] none (omega arith) upto (sym all.1)
