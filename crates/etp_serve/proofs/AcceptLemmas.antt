-- Links that were served so far, and one more.
use Rattle.std.proofs.Common.{◌≡◌, ◌≤◌, ◌<◌, ◌+◌, ◌-◌, ℕ, suc, ℤ, Bool, true, false, List, [], ◌∷◌, ◌++◌, length, map, None, Some, refl, ap, sym, ◌∙◌, subst, inl, inr, arith, append_assoc, length-append}
use Rattle.std.proofs.lemmas.List.{append-nil}
use Rattle.std.proofs.lemmas.Bool.Decides.{nat_tests}
use Rattle.std.specs.Prelude.{IfSome, IsSome, cond, leb}
use Rattle.std.specs.List.{AllByRecursion}
use Rattle.std.specs.declared.option.Option.{Option}
use mathlib.Core.List.{IsPrefix}
use Rattle.etp_values.proofs.EachLemmas.{all-append}
use Rattle.etp_values.proofs.PrefixLemmas.{prefix_self, prefix_trans, prefix_length, prefix_shorter}
use Rattle.etp_values.proofs.RisingLemmas.{rises_wider}
use Rattle.server_config.specs.declared.config.Config.{Config}
use Rattle.store_machine.specs.declared.journal.Act.TheVariants.{Enter}
use Rattle.store_machine.specs.declared.journal.Entry.{Entry}
use Rattle.store_machine.specs.Answers.{has_room_for}
use Rattle.store_machine.specs.Laws.{FullStaysFull}
use Rattle.etp_outside.specs.Doors.{Back, IsAccepted, TakesBack, back_of}
use Rattle.etp_outside.specs.Moments.{Tests}
use Rattle.etp_outside.specs.Told.{Told}
use Rattle.etp_outside.specs.Talk.{Talk}
use Rattle.etp_outside.specs.declared.link.Item.{Item}
use Rattle.etp_outside.proofs.ToldLemmas.{told_self}
use Rattle.etp_values.specs.Rising.{Rises}
use Rattle.turn_book.specs.Lists.{Each, longer, own}
use Rattle.turn_book.specs.Rules.{IsMine, IsSettled, Sound}
use Rattle.turn_book.specs.Steps.{hearing, joined, met_of}
use Rattle.turn_book.specs.declared.view.Met.{Met}
use Rattle.turn_book.proofs.ListLemmas.{each_right}
use Rattle.turn_book.proofs.OwnLemmas.{own_between}
use Rattle.store_hub.specs.declared.hub.Hub.{Hub}
use Rattle.store_hub.specs.Notes.{Meets, SeesMore}
use Rattle.store_hub.specs.Words.{Known, by_of, enters_of}
use Rattle.store_hub.specs.Passes.{known}
use Rattle.store_hub.specs.declared.pass.Pass.{Pass}
use Rattle.store_hub.proofs.CountLemmas.{number_below}
use Rattle.session_core.specs.Arriving.{Event}
use Rattle.session_core.specs.Run.{AllWithin, Course, Heeds, run}
use Rattle.session_core.specs.Session.{bytes_of, end_of}
use Rattle.session_core.specs.declared.state.Outgoing.{Outgoing}
use Rattle.etp_serve.specs.Accepted.{Accepts, AsSession, Backs, Came, HadMemory, HadMemoryBut, IsBack, IsBegun, IsCame, IsDone, IsLeft, IsOfItsOwn, IsOneLess, IsReached, IsSettledIn, IsSilent, OnFull, OnLack, ServesAll, Session, WasServed, end_number, lacks, mets}
use Rattle.etp_serve.specs.Ends.{EndsAs, HasCause}
use Rattle.etp_serve.specs.Events.{AllOpen, events}
use Rattle.etp_serve.specs.Laws.{Laws}
use Rattle.etp_serve.specs.Served.{IsServed, Owns, Serves, Serving}
use Rattle.etp_serve.specs.Talks.{IsSent}
use Rattle.etp_serve.specs.declared.ended.Ended.{Ended}
use Rattle.etp_serve.specs.declared.served.Served.{Served}
use Rattle.etp_serve.specs.declared.served.Served.TheVariants.{Stopped, ListenFault, NoMemory}
use Rattle.etp_serve.specs.declared.thread.Started.{Started}
use Rattle.etp_serve.proofs.RansLemmas.{within_all}
use Rattle.etp_serve.proofs.RunLemmas.{is_cut, is_serial, is_streamed, is_told_at_idle}
use Rattle.etp_serve.proofs.TurnLemmas.{sent_all}

-- ---- a session that was served over a history was served the same way over a longer one

within_front : (high : ℕ) (ps qs : List ℕ) → AllWithin high (ps ++ qs) → AllWithin high ps
within_front high [] qs all = tt
within_front high (p ∷ ps) qs all = (all.0, within_front high ps qs all.1)

open_longer : Laws → (config : Config) (n : ℕ) (old new : List Entry) (places : List ℕ) (es : List Event) → IsPrefix old new → AllWithin (length old) places → AllOpen config n old places es → AllOpen config n new places es
open_longer laws config n old new places es pre within (inl empty) = inl empty
open_longer laws config n old new places es pre within (inr o) =
    let first : AllWithin (length old) o.used = within_front (length old) o.used o.rest (subst (AllWithin (length old)) o.places_are within) in
    inr record {
      before = o.before;
      last = o.last;
      used = o.used;
      rest = o.rest;
      events_are = o.events_are;
      places_are = o.places_are;
      going = ap (λ (c : Course). end_of c.state.phase) (laws.same config n old new o.used o.before pre first).0 ∙ o.going;
    }

served_longer : Laws → (config : Config) (old new : List Entry) (end : Ended) (n : ℕ) (places : List ℕ) (moments : List ℤ) (fronts : List ℕ) (taken : List Item)
    → IsPrefix old new → own by_of n new ≡ own by_of n old → IsServed end config n old places moments fronts taken → IsServed end config n new places moments fronts taken
served_longer laws config old new end n places moments fronts taken pre mine s =
    let es : List Event = events taken moments fronts in
    let within : AllWithin (length old) places = (within_all (n + 1) places (length old) s.rises).1 in
    let same = laws.same config n old new places es pre within in
    let is : run config n old places es ≡ run config n new places es = sym same.0 in
    let rises : Rises (n + 1) places (length new) = rises_wider (n + 1) places (length old) (length new) s.rises (prefix_length old new pre) in
    let heeds : Heeds config n new places es = same.1 s.heeds in
    record {
      own = subst (λ l. Owns end n l places (run config n new places es).made) (sym mine) (subst (λ (c : Course). Owns end n (own by_of n old) places c.made) is s.own);
      ends = subst (EndsAs end) is s.ends;
      used = ap (λ (c : Course). c.places) same.0 ∙ s.used;
      rises = rises;
      turns = s.turns;
      before_end = open_longer laws config n old new places es pre within s.before_end;
      heeds = heeds;
      serial = is_serial laws config n new places es rises;
      ids = s.ids;
      streams = is_streamed laws config n new places es rises s.ids;
      idle = is_told_at_idle laws config n new places es rises s.ids heeds;
      cut = is_cut laws config n new places es rises s.ids;
    }

pub was_served : Laws → (test : List ℤ → Bool) (config : Config) (old new : List Entry) (s : Session) → IsPrefix old new → own by_of s.met.number new ≡ own by_of s.met.number old → WasServed test config old s → WasServed test config new s
was_served laws test config old new s pre mine w =
    let n : ℕ = s.met.number in
    let es : List Event = events s.taken s.moments s.met.heard in
    let within : AllWithin (length old) w.places = (within_all (n + 1) w.places (length old) w.served.rises).1 in
    record {
      places = w.places;
      places_are = w.places_are;
      passes = w.passes;
      served = served_longer laws config old new s.end n w.places s.moments s.met.heard s.taken pre mine w.served;
      all_sent = subst (λ (c : Course). IsSent s.end (map bytes_of c.sent) s.sent) (sym (laws.same config n old new w.places es pre within).0) w.all_sent;
    }

came_all : Laws → (test : List ℤ → Bool) (config : Config) (low : ℕ) (h : List Entry) (cs : List Came) → AllByRecursion (IsOfItsOwn test config low) cs → AllByRecursion (IsSettledIn config h) cs → AllByRecursion (IsCame test config low h) cs
came_all laws test config low h [] each settled = tt
came_all laws test config low h (AsSession s ∷ cs) each settled =
    ((each.0.0, was_served laws test config s.met.seen h s settled.0.0 settled.0.1 each.0.1), came_all laws test config low h cs each.1 settled.1)
came_all laws test config low h (OnFull ∷ cs) each settled = (settled.0, came_all laws test config low h cs each.1 settled.1)
came_all laws test config low h (OnLack ∷ cs) each settled = (tt, came_all laws test config low h cs each.1 settled.1)

-- ---- lists of what came

mets_snoc : (cs : List Came) (c : Came) → mets (cs ++ c ∷ []) ≡ mets cs ++ mets (c ∷ [])
mets_snoc [] c = refl
mets_snoc (AsSession s ∷ cs) c = ap (λ l. s.met ∷ l) (mets_snoc cs c)
mets_snoc (OnFull ∷ cs) c = mets_snoc cs c
mets_snoc (OnLack ∷ cs) c = mets_snoc cs c

backs_snoc : (cs : List Came) (bs : List Back) (c : Came) (b : Back) → Backs cs bs → IsBack c b → Backs (cs ++ c ∷ []) (bs ++ b ∷ [])
backs_snoc [] [] c b all is = (is, tt)
backs_snoc [] (x ∷ bs) c b all is = absurd all
backs_snoc (d ∷ cs) [] c b all is = absurd all
backs_snoc (d ∷ cs) (x ∷ bs) c b all is = (all.0, backs_snoc cs bs c b all.1 is)

backs_length : (cs : List Came) (bs : List Back) → Backs cs bs → length cs ≡ length bs
backs_length [] [] all = refl
backs_length [] (x ∷ bs) all = absurd all
backs_length (d ∷ cs) [] all = absurd all
backs_length (d ∷ cs) (x ∷ bs) all = ap suc (backs_length cs bs all.1)

lacks_append : (cs ds : List Came) → lacks (cs ++ ds) ≡ lacks cs + lacks ds
lacks_append [] ds = omega arith
lacks_append (AsSession s ∷ cs) ds = lacks_append cs ds
lacks_append (OnFull ∷ cs) ds = lacks_append cs ds
lacks_append (OnLack ∷ cs) ds = let more = lacks_append cs ds in omega (arith, more)

lacks_none : (cs : List Came) → AllByRecursion HadMemory cs → lacks cs ≡ 0
lacks_none [] all = refl
lacks_none (AsSession s ∷ cs) all = lacks_none cs all.1
lacks_none (OnFull ∷ cs) all = lacks_none cs all.1
lacks_none (OnLack ∷ cs) all = absurd all.0

had_none : (c : Came) → HadMemory c → lacks (c ∷ []) ≡ 0
had_none c had = lacks_none (c ∷ []) (had, tt)

memory_more : (end : Served) (cs : List Came) (c : Came) → HadMemory c → HadMemoryBut end cs → HadMemoryBut end (cs ++ c ∷ [])
memory_more Stopped cs c had all = all-append HadMemory cs (c ∷ []) all (had, tt)
memory_more ListenFault cs c had all = all-append HadMemory cs (c ∷ []) all (had, tt)
memory_more NoMemory cs c had few = let sum = lacks_append cs (c ∷ []) in let none = had_none c had in omega (arith, sum, none, few)

memory_lacks : (cs : List Came) → HadMemoryBut Stopped cs → HadMemoryBut NoMemory (cs ++ OnLack ∷ [])
memory_lacks cs all = let sum : lacks (cs ++ OnLack ∷ []) ≡ lacks cs + 1 = lacks_append cs (OnLack ∷ []) in let none = lacks_none cs all in omega (arith, sum, none)

memory_still : (end : Served) (cs : List Came) → HadMemoryBut Stopped cs → HadMemoryBut end cs
memory_still Stopped cs all = all
memory_still ListenFault cs all = all
memory_still NoMemory cs all = let none = lacks_none cs all in omega (arith, none)

-- one more link came back
links_more : (cs : List Came) (c : Came) (back : Back) (b0 b b' : Option (List Back)) (given0 given left : ℕ) → given ≡ given0 + (length cs + suc left) → IfSome b0 (λ bs. length bs ≤ given0) → (IsSome b0 → IsBack c back)
    → Told b0 b (λ x y. (new : List Back) × (y ≡ x ++ new) × Backs cs new) → Told b b' (TakesBack given back) → Told b0 b' (λ x y. (new : List Back) × (y ≡ x ++ new) × Backs (cs ++ c ∷ []) new)
links_more cs c back None b b' given0 given left count few is told took = tt
links_more cs c back (Some x) None b' given0 given left count few is told took = absurd told
links_more cs c back (Some x) (Some y) None given0 given left count few is told took = absurd took
links_more cs c back (Some x) (Some y) (Some z) given0 given left count few is told took =
    let new : List Back = told.0 in
    let long : length y ≡ length x + length new = ap length told.1 ∙ length-append x new in
    let same : length cs ≡ length new = backs_length cs new told.2 in
    let room : length y < given = omega (arith, few, count, long, same) in
    let now : z ≡ y ++ back ∷ [] = took room in
    (new ++ back ∷ [], now ∙ (ap (λ l. l ++ back ∷ []) told.1 ∙ append_assoc x new (back ∷ [])), backs_snoc cs new c back told.2 (is refl))

-- ---- what is settled stays settled

abbrev pub IsStillFull : Config → List Entry → Came → Type 0
IsStillFull config h (AsSession s) = Unit {0}
IsStillFull config h OnFull = has_room_for config h Enter ≡ false
IsStillFull config h OnLack = Unit {0}

still_full : FullStaysFull → (config : Config) (old new : List Entry) → IsPrefix old new → (cs : List Came) → AllByRecursion (IsSettledIn config old) cs → AllByRecursion (IsStillFull config new) cs
still_full room config old new pre [] all = tt
still_full room config old new pre (AsSession s ∷ cs) all = (tt, still_full room config old new pre cs all.1)
still_full room config old new pre (OnFull ∷ cs) all =
    (subst (λ (h : List Entry). has_room_for config h Enter ≡ false) pre.1 (room config old pre.0 all.0), still_full room config old new pre cs all.1)
still_full room config old new pre (OnLack ∷ cs) all = (tt, still_full room config old new pre cs all.1)

abbrev pub IsMetIn : List Entry → Met Entry → Type 0
IsMetIn h m = IsPrefix m.seen h × IsSettled by_of enters_of h m.number m.seen

settled_now : (config : Config) (h : List Entry) (cs : List Came) → AllByRecursion (IsStillFull config h) cs → Each (IsMetIn h) (mets cs) → AllByRecursion (IsSettledIn config h) cs
settled_now config h [] full each = tt
settled_now config h (AsSession s ∷ cs) full each = let one = each 0 s.met refl in ((one.0, one.1.own), settled_now config h cs full.1 (λ i m at. each (suc i) m at))
settled_now config h (OnFull ∷ cs) full each = (full.0, settled_now config h cs full.1 each)
settled_now config h (OnLack ∷ cs) full each = (tt, settled_now config h cs full.1 each)

-- ---- the accepting pass makes no entry

-- a pass has seen the entry that let it in
pub begins : (p : Pass) → IfSome (known p).number (λ n. n < length (known p).seen)
begins p = subst (λ (o : Option ℕ). IfSome o (λ n. n < length (known p).seen)) (sym p.kept.0) (number_below p.number (known p).seen p.kept.3)

below_before : (o : Option ℕ) (xs ys : List Entry) → IsPrefix xs ys → IfSome o (λ n. n < length xs) → IfSome o (λ n. n < length ys)
below_before None xs ys pre below = tt
below_before (Some n) xs ys pre below = let more = prefix_length xs ys pre in omega (arith, below, more)

pub own_chain : (o : Option ℕ) (xs ys zs : List Entry) → IfSome o (λ n. own by_of n zs ≡ own by_of n ys) → IfSome o (λ n. own by_of n ys ≡ own by_of n xs) → IfSome o (λ n. own by_of n zs ≡ own by_of n xs)
own_chain None xs ys zs later first = tt
own_chain (Some n) xs ys zs later first = later ∙ first

pub own_still : (o : Option ℕ) (xs : List Entry) → IfSome o (λ n. own by_of n xs ≡ own by_of n xs)
own_still None xs = tt
own_still (Some n) xs = refl

-- what was joined has no entry under the pass's number
mine_joined : (o : Option ℕ) (xs ys : List Entry) → IfSome o (λ n. n < length xs) → IfSome o (λ n. IsMine by_of n (xs ∷ ys ∷ [])) → IfSome o (λ n. own by_of n (longer xs ys) ≡ own by_of n xs)
mine_joined None xs ys below mine = tt
mine_joined (Some n) xs ys below mine = mine below

silent_more : (v0 v u : Known) → IsSilent v0 v → u.number ≡ v.number → IfSome v.number (λ n. own by_of n u.seen ≡ own by_of n v.seen) → IsSilent v0 u
silent_more v0 v u s number own_same = record {
  number = number ∙ s.number;
  own = own_chain v0.number v0.seen v.seen u.seen (subst (λ (o : Option ℕ). IfSome o (λ n. own by_of n u.seen ≡ own by_of n v.seen)) s.number own_same) s.own;
}

silent_met : (v0 v w u : Known) → IfSome v0.number (λ n. n < length v0.seen) → IsPrefix v0.seen v.seen → IsSilent v0 v → Meets v w u → IsSilent v0 u
silent_met v0 v w u begun before s m =
    let sound : Sound by_of enters_of (hearing m.front (joined v w)) = subst (λ (x : Known). Sound by_of enters_of x) m.view m.sound in
    let below : IfSome v.number (λ n. n < length v.seen) = subst (λ (o : Option ℕ). IfSome o (λ n. n < length v.seen)) (sym s.number) (below_before v0.number v0.seen v.seen before begun) in
    let same : IfSome v.number (λ n. own by_of n (longer v.seen w.seen) ≡ own by_of n v.seen) = mine_joined v.number v.seen w.seen below sound.fits.mine in
    silent_more v0 v u s (ap (λ (x : Known). x.number) m.view) (subst (λ (x : Known). IfSome v.number (λ n. own by_of n x.seen ≡ own by_of n v.seen)) (sym m.view) same)

-- a journal that goes on from what was seen has no more under the pass's number
mine_whole : (o : Option ℕ) (xs ys : List Entry) → IsPrefix xs ys → IfSome o (λ n. n < length xs) → IfSome o (λ n. IsMine by_of n (xs ∷ ys ∷ [])) → IfSome o (λ n. own by_of n ys ≡ own by_of n xs)
mine_whole None xs ys pre below mine = tt
mine_whole (Some n) xs ys pre below mine = by (leb (length ys) (length xs)) refl
  where
    by : (b : Bool) → leb (length ys) (length xs) ≡ b → own by_of n ys ≡ own by_of n xs
    by true is = let short : length ys ≤ length xs = grind (arith, nat_tests, is) in own_between by_of n ys xs ys (prefix_shorter ys xs ys (prefix_self ys) pre short) pre refl
    by false is = subst (λ (t : Bool). own by_of n (cond t xs ys) ≡ own by_of n xs) is (mine below)

silent_away : (v0 v u : Known) (log : List Entry) → IfSome v0.number (λ n. n < length v0.seen) → IsPrefix v0.seen v.seen → IsSilent v0 v → SeesMore log v u → IsSilent v0 u
silent_away v0 v u log begun before s more =
    let sound : Sound by_of enters_of (hearing more.front (record v { seen = log; olds = v.seen ∷ log ∷ [] })) = subst (λ (x : Known). Sound by_of enters_of x) more.view more.sound in
    let below : IfSome v.number (λ n. n < length v.seen) = subst (λ (o : Option ℕ). IfSome o (λ n. n < length v.seen)) (sym s.number) (below_before v0.number v0.seen v.seen before begun) in
    let same : IfSome v.number (λ n. own by_of n log ≡ own by_of n v.seen) = mine_whole v.number v.seen log more.before below sound.fits.mine in
    silent_more v0 v u s (ap (λ (x : Known). x.number) more.view) (subst (λ (x : Known). IfSome v.number (λ n. own by_of n x.seen ≡ own by_of n v.seen)) (sym more.view) same)

-- ---- a session

-- what a new link was sent, and what it reveals of it
sent_of : (end : Ended) (taken : List Item) (said : List Outgoing) (a0 a : Option Talk) → IfSome a0 (λ t. t.taken ≡ []) → IfSome a0 (λ t. t.sent ≡ []) → Told a0 a (Serving end taken said)
    → (sent : List (List ℕ)) × IsSent end (map bytes_of said) sent × (IsSome a0 → (t : Talk) × (a ≡ Some t) × (t.taken ≡ taken) × (t.sent ≡ sent))
sent_of end taken said None a none_taken none_sent told = (map bytes_of said, sent_all end (map bytes_of said), λ is. absurd (cc is))
sent_of end taken said (Some x) None none_taken none_sent told = absurd told
sent_of end taken said (Some x) (Some y) none_taken none_sent told =
    (told.0, told.2, λ is. (y, refl, told.1.taken ∙ ap (λ l. l ++ taken) none_taken, told.1.sent ∙ ap (λ l. l ++ told.0) none_sent))

met_one : (o : Option ℕ) (n : ℕ) (seen : List Entry) (places heard : List ℕ) (met : List (Met Entry)) → o ≡ Some n → met ≡ []
    → met_of o seen places heard ++ met ≡ record { number = n; seen = seen; places = places; heard = heard } ∷ []
met_one o n seen places heard met is alone =
    ap (λ (x : Option ℕ). met_of x seen places heard ++ met) is ∙ ap (λ (l : List (Met Entry)). met_of (Some n) seen places heard ++ l) alone

module _ (room : FullStaysFull) (test : List ℤ → Bool) (config : Config) (v0 : Known) (given0 : ℕ) (b0 : Option (List Back)) where
  -- what came, and one that came back
  came_back : (end now : Served) (v u : Known) (given left : ℕ) (b b' : Option (List Back)) (c : Came) (back : Back)
      → (a : Accepts end test config v0 v given0 given (suc left) b0 b) → IsPrefix v.seen u.seen → u.met ≡ v.met ++ mets (c ∷ []) → Each (IsMetIn u.seen) u.met
      → IsOfItsOwn test config (length v0.seen) c → IsStillFull config u.seen c → (IsSome b0 → IsBack c back) → Told b b' (TakesBack given back) → HadMemoryBut now (a.came ++ c ∷ []) → IsSilent v0 u
      → Accepts now test config v0 u given0 given left b0 b'
  came_back end now v u given left b b' c back a pre met sound mine full is took memory silent =
      let all : List Came = a.came ++ c ∷ [] in
      let met_all : u.met ≡ v0.met ++ mets all =
      met ∙ (ap (λ (l : List (Met Entry)). l ++ mets (c ∷ [])) a.met ∙ (append_assoc v0.met (mets a.came) (mets (c ∷ [])) ∙ ap (λ (l : List (Met Entry)). v0.met ++ l) (sym (mets_snoc a.came c)))) in
      let fulls : AllByRecursion (IsStillFull config u.seen) all = all-append (IsStillFull config u.seen) a.came (c ∷ []) (still_full room config v.seen u.seen pre a.came a.settled) (full, tt) in
      let long : length all ≡ length a.came + 1 = length-append a.came (c ∷ []) in
      record {
        came = all;
        met = met_all;
        before = prefix_trans v0.seen v.seen u.seen a.before pre;
        begun = a.begun;
        silent = silent;
        each = all-append (IsOfItsOwn test config (length v0.seen)) a.came (c ∷ []) a.each (mine, tt);
        settled = settled_now config u.seen all fulls (each_right (IsMetIn u.seen) v0.met (mets all) (subst (Each (IsMetIn u.seen)) met_all sound));
        count = omega (arith, a.count, long);
        few = a.few;
        links = links_more a.came c back b0 b b' given0 given left a.count a.few is a.links took;
        memory = memory;
      }

  -- a session was served, and met
  pub accepts_served : (end : Served) (v w u : Known) (given left : ℕ) (b b' : Option (List Back)) (n : ℕ) (ended : Ended) (a0 a : Option Talk) (f0 f : ℕ) (e0 over : Bool)
      → Accepts end test config v0 v given0 given (suc left) b0 b → IsDone test config n w ended a0 a f0 f over → Meets v w u → length v0.seen ≤ n → IsAccepted a0 f0 e0 → (IsSome b0 → IsSome a0)
      → Told b b' (TakesBack given (back_of n (end_number ended) f over a)) → Accepts end test config v0 u given0 given left b0 b'
  accepts_served end v w u given left b b' n ended a0 a f0 f e0 over acc d m late fresh tells took =
      let said : List Outgoing = (run config n w.seen d.places (events d.taken d.moments w.heard)).sent in
      let sent = sent_of ended d.taken said a0 a fresh.fresh.taken fresh.fresh.sent d.link in
      let s : Session = record { met = record { number = n; seen = w.seen; places = w.places; heard = w.heard }; end = ended; taken = d.taken; moments = d.moments; sent = sent.0 } in
      let met : u.met ≡ v.met ++ s.met ∷ [] = ap (λ (x : Known). x.met) m.view ∙ ap (λ (l : List (Met Entry)). v.met ++ l) (met_one w.number n w.seen w.places w.heard w.met d.number d.alone) in
      came_back end end v u given left b b' (AsSession s) (back_of n (end_number ended) f over a) acc m.first met m.sound.fits.met
      (late, record { places = d.places; places_are = d.places_are; passes = d.passes; served = d.served; all_sent = sent.1 }) tt
      (λ is. let t = sent.2 (tells is) in record {
        number_is = refl;
        end_is = refl;
        cause = subst (λ (k : ℕ). HasCause ended k f over) fresh.fresh.faultless d.cause;
        talk = t.0;
        told = t.1;
        taken_is = t.2;
        sent_is = t.3;
      }) took (memory_more end acc.came (AsSession s) tt acc.memory) (silent_met v0 v w u acc.begun acc.before acc.silent m)

  module _ (v u : Known) (log : List Entry) (given left : ℕ) (b b' : Option (List Back)) (a0 : Option Talk) (f0 : ℕ) (e0 : Bool) (acc : Accepts Stopped test config v0 v given0 given (suc left) b0 b)
      (more : SeesMore log v u) (fresh : IsAccepted a0 f0 e0) (tells : IsSome b0 → IsSome a0) where
    away_seen : u.seen ≡ log
    away_seen = ap (λ (x : Known). x.seen) more.view

    away_met : u.met ≡ v.met ++ []
    away_met = ap (λ (x : Known). x.met) more.view ∙ sym (append-nil v.met)

    away_before : IsPrefix v.seen u.seen
    away_before = subst (IsPrefix v.seen) (sym away_seen) more.before

    talk_of : (a : Option Talk) → IsSome a → IfSome a (λ t. t.taken ≡ []) → IfSome a (λ t. t.sent ≡ []) → (t : Talk) × (a ≡ Some t) × (t.taken ≡ []) × (t.sent ≡ [])
    talk_of None is none_taken none_sent = absurd (cc is)
    talk_of (Some t) is none_taken none_sent = (t, refl, none_taken, none_sent)

    -- the journal was full
    pub accepts_full : has_room_for config log Enter ≡ false → Told b b' (TakesBack given (back_of 0 5 f0 e0 a0)) → Accepts Stopped test config v0 u given0 given left b0 b'
    accepts_full full took =
        came_back Stopped Stopped v u given left b b' OnFull (back_of 0 5 f0 e0 a0) acc away_before away_met more.sound.fits.met tt
        (subst (λ (h : List Entry). has_room_for config h Enter ≡ false) (sym away_seen) full)
        (λ is. let t = talk_of a0 (tells is) fresh.fresh.taken fresh.fresh.sent in record { number_is = refl; end_is = refl; talk = t.0; told = t.1; taken_is = t.2; sent_is = t.3 })
        took (memory_more Stopped acc.came OnFull tt acc.memory) (silent_away v0 v u log acc.begun acc.before acc.silent more)

    -- memory ran out
    pub accepts_lack : Told b b' (TakesBack given (back_of 0 7 f0 e0 a0)) → Accepts NoMemory test config v0 u given0 given left b0 b'
    accepts_lack took =
        came_back Stopped NoMemory v u given left b b' OnLack (back_of 0 7 f0 e0 a0) acc away_before away_met more.sound.fits.met tt tt
        (λ is. let t = talk_of a0 (tells is) fresh.fresh.taken fresh.fresh.sent in record { number_is = refl; end_is = refl; talk = t.0; told = t.1; taken_is = t.2; sent_is = t.3 })
        took (memory_lacks acc.came acc.memory) (silent_away v0 v u log acc.begun acc.before acc.silent more)

module _ (test : List ℤ → Bool) (config : Config) (v0 : Known) (given0 : ℕ) (b0 : Option (List Back)) where
  pub accepts_start : IfSome v0.number (λ n. n < length v0.seen) → IfSome b0 (λ bs. length bs ≤ given0) → Accepts Stopped test config v0 v0 given0 given0 0 b0 b0
  accepts_start begun few = record {
    came = [];
    met = sym (append-nil v0.met);
    before = prefix_self v0.seen;
    begun = begun;
    silent = record { number = refl; own = own_still v0.number v0.seen };
    each = tt;
    settled = tt;
    count = omega arith;
    few = few;
    links = told_self b0 (λ x y. (new : List Back) × (y ≡ x ++ new) × Backs [] new) (λ x. ([], sym (append-nil x), tt));
    memory = tt;
  }

  -- the serving ends
  pub accepts_until : (end : Served) (v : Known) (given left : ℕ) (b : Option (List Back)) → Accepts Stopped test config v0 v given0 given left b0 b → Accepts end test config v0 v given0 given left b0 b
  accepts_until end v given left b a = record {
    came = a.came;
    met = a.met;
    before = a.before;
    begun = a.begun;
    silent = a.silent;
    each = a.each;
    settled = a.settled;
    count = a.count;
    few = a.few;
    links = a.links;
    memory = memory_still end a.came a.memory;
  }

  -- all links came back
  pub accepts_all : Laws → (end : Served) (v : Known) (given : ℕ) (b : Option (List Back)) → Accepts end test config v0 v given0 given 0 b0 b → ServesAll end test config v0 v given0 given b0 b
  accepts_all laws end v given b a = record {
    came = a.came;
    met = a.met;
    before = a.before;
    silent = a.silent;
    each = came_all laws test config (length v0.seen) v.seen a.came a.each a.settled;
    count = omega (arith, a.count);
    links = a.links;
    memory = a.memory;
  }

-- ---- the thread's part

moments_pass : (c0 c : Option (List ℤ)) (test now : List ℤ → Bool) (moments : List ℤ) → IfSome c0 (λ ms. ms ≡ []) → Told c0 c (λ x y. y ≡ x ++ moments) → Tests c0 test → Tests c now → now ≡ test → test moments ≡ true
moments_pass None c test now moments anew told first last same = first moments
moments_pass (Some x) None test now moments anew told first last same = absurd told
moments_pass (Some x) (Some y) test now moments anew told first last same =
    let are : y ≡ moments = told ∙ ap (λ l. l ++ moments) anew in
    subst (λ (t : List ℤ → Bool). t moments ≡ true) same (subst (λ l. now l ≡ true) are last)

-- what a thread's session leaves
pub done_of : (end : Ended) (config : Config) (n : ℕ) (v : Known) (a0 a : Option Talk) (c0 c : Option (List ℤ)) (test now : List ℤ → Bool) (f0 f : ℕ) (over : Bool)
    → Serves end config n v a0 a c0 c → HasCause end f0 f over → v.number ≡ Some n → v.met ≡ [] → IfSome c0 (λ ms. ms ≡ []) → Tests c0 test → Tests c now → now ≡ test → IsDone test config n v end a0 a f0 f over
done_of end config n v a0 a c0 c test now f0 f over s cause number alone anew first last same = record {
  taken = s.taken;
  moments = s.moments;
  places = s.places;
  number = number;
  places_are = s.places_are;
  alone = alone;
  passes = moments_pass c0 c test now s.moments anew s.clock first last same;
  link = s.link;
  served = s.served;
  cause = cause;
}

-- what the link reveals once it was closed
pub done_closed : (test : List ℤ → Bool) (config : Config) (n : ℕ) (v : Known) (end : Ended) (a0 a a' : Option Talk) (f0 f f' : ℕ) (over over' : Bool)
    → IsDone test config n v end a0 a f0 f over → a' ≡ a → f' ≡ f → over' ≡ over → IsDone test config n v end a0 a' f0 f' over'
done_closed test config n v end a0 a a' f0 f f' over over' d talk faults ended =
    subst (λ (x : Option Talk). IsDone test config n v end a0 x f0 f' over') (sym talk)
    (subst (λ (x : ℕ). IsDone test config n v end a0 a f0 x over') (sym faults) (subst (λ (x : Bool). IsDone test config n v end a0 a f0 f x) (sym ended) d))

pub done_as : (test test' : List ℤ → Bool) (config config' : Config) (n : ℕ) (v : Known) (end : Ended) (a0 a : Option Talk) (f0 f : ℕ) (over : Bool)
    → IsDone test config n v end a0 a f0 f over → test ≡ test' → config ≡ config' → IsDone test' config' n v end a0 a f0 f over
done_as test test' config config' n v end a0 a f0 f over d same is =
    subst (λ (x : Config). IsDone test' x n v end a0 a f0 f over) is (subst (λ (x : List ℤ → Bool). IsDone x config n v end a0 a f0 f over) same d)

-- what a listener took back, by equal numbers
pub took_as : (b b' : Option (List Back)) (given n n' e e' f : ℕ) (over : Bool) (a : Option Talk) → n ≡ n' → e ≡ e' → Told b b' (TakesBack given (back_of n e f over a)) → Told b b' (TakesBack given (back_of n' e' f over a))
took_as b b' given n n' e e' f over a number end took =
    subst (λ (x : ℕ). Told b b' (TakesBack given (back_of x e' f over a))) number (subst (λ (x : ℕ). Told b b' (TakesBack given (back_of n x f over a))) end took)

pub accepts_as : (end : Served) (test : List ℤ → Bool) (config : Config) (v0 v : Known) (given0 given now left left' : ℕ) (b0 b : Option (List Back)) → Accepts end test config v0 v given0 given left b0 b → now ≡ given → left' ≡ left → Accepts end test config v0 v given0 now left' b0 b
accepts_as end test config v0 v given0 given now left left' b0 b a same is =
    subst (λ (x : ℕ). Accepts end test config v0 v given0 x left' b0 b) (sym same) (subst (λ (x : ℕ). Accepts end test config v0 v given0 given x b0 b) (sym is) a)

-- the same by equal beginnings
pub accepts_at : (end : Served) (test : List ℤ → Bool) (config : Config) (v0 v0' v : Known) (given0 given0' given left left' : ℕ) (b0 b0' b : Option (List Back)) → v0' ≡ v0 → given0' ≡ given0 → left' ≡ left → b0' ≡ b0
    → Accepts end test config v0 v given0 given left b0 b → Accepts end test config v0' v given0' given left' b0' b
accepts_at end test config v0 v0' v given0 given0' given left left' b0 b0' b view count more backs a =
    subst (λ (x : Known). Accepts end test config x v given0' given left' b0' b) (sym view)
    (subst (λ (x : ℕ). Accepts end test config v0 v x given left' b0' b) (sym count)
    (subst (λ (x : ℕ). Accepts end test config v0 v given0 given x b0' b) (sym more) (subst (λ (x : Option (List Back)). Accepts end test config v0 v given0 given left x b) (sym backs) a)))

-- what a thread was given, by what its promise has
pub begun_as : {L C : Type 0} (talk : L → Option Talk) (faults : L → ℕ) (over : L → Bool) (tests : C → List ℤ → Bool) (hub : Hub) (test : List ℤ → Bool) (low : ℕ) (b0 : Option (List Back)) (p : Started L C) (link : L) (n : ℕ)
    → p.hub.value ≡ hub → tests p.clock.value ≡ test → p.number ≡ n → p.link.value ≡ link → low ≤ n → IsAccepted (talk link) (faults link) (over link) → (IsSome b0 → IsSome (talk link)) → IsBegun talk faults over tests hub test low b0 p
begun_as {L} talk faults over tests hub test low b0 p link n hub_is test_is number_is link_is late fresh tells = record {
  hub_is = hub_is;
  test_is = test_is;
  late = subst (λ (k : ℕ). low ≤ k) (sym number_is) late;
  fresh = subst (λ (l : L). IsAccepted (talk l) (faults l) (over l)) (sym link_is) fresh;
  tells = subst (λ (l : L). IsSome b0 → IsSome (talk l)) (sym link_is) tells;
}

-- ---- a child that is put after the others

pub pushed : {X : Type 0} (P : X → Type 0) (old new : List X) (x : X) → new ≡ old ++ x ∷ [] → AllByRecursion P old → P x → AllByRecursion P new
pushed P old new x is all p = subst (AllByRecursion P) (sym is) (all-append P old (x ∷ []) all (p, tt))

-- ---- how many links may still come

pub left_start : (most : Option ℕ) (given : ℕ) → IsLeft most most given given
left_start None given = refl
left_start (Some m) given = (m, refl, refl)

pub left_next : (most left after : Option ℕ) (given0 given now : ℕ) → IsLeft most left given0 given → IsOneLess left after → now ≡ given + 1 → IsLeft most after given0 now
left_next None left after given0 given now is less one = subst (λ (x : Option ℕ). IsOneLess x after) is less
left_next (Some m) left after given0 given now is less one =
    let n : ℕ = is.0 in
    let by : IsOneLess (Some n) after = subst (λ (x : Option ℕ). IsOneLess x after) is.1 less in
    (n - 1, by.1, omega (arith, by.0, is.2, one))

pub left_most : (most left after : Option ℕ) (given0 given now : ℕ) → IsLeft most left given0 given → IsOneLess left after → now ≤ given + 1 → IfSome most (λ m. now ≤ given0 + m)
left_most None left after given0 given now is less one = tt
left_most (Some m) left after given0 given now is less one =
    let by : IsOneLess (Some is.0) after = subst (λ (x : Option ℕ). IsOneLess x after) is.1 less in omega (arith, by.0, is.2, one)

pub left_over : (most left : Option ℕ) (given0 given : ℕ) → IsLeft most left given0 given → left ≡ Some 0 → IsReached most given0 given × IfSome most (λ m. given ≤ given0 + m)
left_over None left given0 given is empty = absurd (cc (is, empty))
left_over (Some m) left given0 given is empty = let zero_left : is.0 ≡ 0 = cc (is.1, empty) in (omega (arith, zero_left, is.2), omega (arith, zero_left, is.2))
