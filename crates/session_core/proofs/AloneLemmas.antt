-- The law of committed transactions, by induction on the events: a run, and its session alone.
use Rattle.std.specs.Prelude.{ℕ, ℤ, ◌+◌, ◌-◌, ◌^◌, ◌≤◌, ◌≡◌, Bool, true, false, List, [], ◌∷◌, ◌++◌, Option, Some, None, refl, if◌then◌else◌, map, take, length, nat_le, int_lt}
use Rattle.std.specs.List.{AllByRecursion}
use Rattle.std.proofs.Common.{ap, sym, ◌∙◌, subst, arith}
use Rattle.std.proofs.lemmas.Bool.{false≢true}
use Rattle.std.proofs.lemmas.Bool.Decides.{nat_tests}
use Rattle.server_config.specs.declared.config.Config.{Config}
use Rattle.etp_frame.specs.Joining.{Awaited}
use Rattle.etp_frame.specs.declared.message.Message.{Message}
use Rattle.session_rows.specs.Transactions.{to_commit}
use Rattle.store_machine.specs.Answers.{answered, commit_reply, has_room, seen_after, wanted}
use Rattle.store_machine.specs.Clash.{conflict}
use Rattle.store_machine.specs.History.{value_after}
use Rattle.store_machine.specs.declared.call.Reply.TheVariants as reply
use Rattle.store_machine.specs.declared.call.StoreCall.{StoreCall}
use Rattle.store_machine.specs.declared.call.StoreCall.TheVariants as call
use Rattle.store_machine.specs.declared.journal.Entry.{Entry}
use Rattle.subscribe_core.specs.Subscriptions.{Subbed}
use Rattle.tx_stage.specs.Laws.{LooksAtOwnKeys}
use Rattle.tx_stage.specs.Looks.{key_of}
use Rattle.tx_stage.specs.Staging.{Transaction}
use Rattle.tx_stage.specs.declared.look.Want.{Want}
use Rattle.tx_stage.specs.declared.touch.Touch.{Touch}
use Rattle.session_core.specs.declared.state.End.{End}
use Rattle.session_core.specs.declared.state.Live.TheVariants as live
use Rattle.session_core.specs.declared.state.Outgoing.{Outgoing}
use Rattle.session_core.specs.declared.state.Part.{Part}
use Rattle.session_core.specs.declared.state.Pending.{Pending}
use Rattle.session_core.specs.declared.state.Phase.TheVariants as phase
use Rattle.session_core.specs.declared.state.Request.{Request}
use Rattle.session_core.specs.State.{State}
use Rattle.session_core.specs.Arriving.{Event}
use Rattle.session_core.specs.Run.{Course, drained, happens, happens_unless, takes}
use Rattle.session_core.specs.Sending.{is_spent, max_id, next_after, numbered, outgoing, replies_in}
use Rattle.session_core.specs.Serial.{EndsBy, RisesFrom, Succeeds, alone, bodies, replies, requests}
use Rattle.session_core.proofs.MarkedLemmas.{AreFree, AreWithin, marked}
use Rattle.session_core.proofs.RunLemmas.{course}

-- ---- states

-- an open session with a transaction, nothing to hear, and these messages to send
abbrev pub at : State → ℤ → ℕ → List Bool → Subbed → Transaction → Option Awaited → ℕ → List Outgoing → State
at base last next opens subs x joiner blobs out = record base { phase = phase.Live live.Open; last_id = last; next_id = next; blobs = blobs; stage = Some x; joiner = joiner; opens = opens; subs = subs; pending = None; out = out }

-- each id that follows the second one follows the first
abbrev pub Later : ℤ → ℤ → Type 0
Later a b = (id : ℤ) → int_lt b id ≡ true → int_lt a id ≡ true

-- what is shown about the events that are left: the replies are those of the session alone, no touched key was altered before the commit,
-- and the commit's place is not below this one
pub record Lawful (h : List Entry) (p n : ℕ) (ts : List Touch) (left right : List Message) : Type 0 where
  pub same : left ≡ right
  pub free : AreFree (take p h) ts
  pub above : n ≤ p

-- ---- own ids: from a lower one on all parts have theirs too

pub bodies-append : (xs ys : List Outgoing) → bodies (xs ++ ys) ≡ bodies xs ++ bodies ys
bodies-append [] ys = refl
bodies-append (x ∷ xs) ys = ap (λ l. x.message ∷ l) (bodies-append xs ys)

abbrev pub part_bodies : List Part → List Message
part_bodies ps = map (λ (y : Part). y.message) ps

pub bodies-numbered : (r : Request) (id : ℕ) (ps : List Part) → is_spent id ps ≡ false → bodies (numbered r id ps) ≡ part_bodies ps
bodies-numbered r id [] e = refl
bodies-numbered r id (p ∷ ps) e = by (nat_le id max_id) e (bodies-numbered r (id + 2) ps)
  where
    by : (b : Bool) → (if b then is_spent (id + 2) ps else true) ≡ false → (is_spent (id + 2) ps ≡ false → bodies (numbered r (id + 2) ps) ≡ part_bodies ps)
        → bodies (if b then outgoing r id (replies_in ps) p ∷ numbered r (id + 2) ps else []) ≡ p.message ∷ part_bodies ps
    by true e rest = ap (λ l. p.message ∷ l) (rest e)
    by false e rest = absurd (false≢true (sym e))

low_id : (a b : ℕ) → a ≤ b → nat_le b max_id ≡ true → nat_le a max_id ≡ true
low_id a b le h = grind (arith, nat_tests)

pub spent-less : (a b : ℕ) (ps : List Part) → a ≤ b → is_spent b ps ≡ false → is_spent a ps ≡ false
spent-less a b [] le e = refl
spent-less a b (p ∷ ps) le e = by (nat_le b max_id) refl e (spent-less (a + 2) (b + 2) ps (omega (arith, le)))
  where
    by : (t : Bool) → nat_le b max_id ≡ t → (if t then is_spent (b + 2) ps else true) ≡ false → (is_spent (b + 2) ps ≡ false → is_spent (a + 2) ps ≡ false) → is_spent a (p ∷ ps) ≡ false
    by true h e rest = ap (λ (t : Bool). if t then is_spent (a + 2) ps else true) (low_id a b le h) ∙ rest e
    by false h e rest = absurd (false≢true (sym e))

pub next-less : (a b : ℕ) (ps : List Part) → a ≤ b → is_spent b ps ≡ false → next_after a ps ≤ next_after b ps
next-less a b [] le e = le
next-less a b (p ∷ ps) le e = by (nat_le b max_id) refl e (next-less (a + 2) (b + 2) ps (omega (arith, le)))
  where
    by : (t : Bool) → nat_le b max_id ≡ t → (if t then is_spent (b + 2) ps else true) ≡ false → (is_spent (b + 2) ps ≡ false → next_after (a + 2) ps ≤ next_after (b + 2) ps)
        → next_after a (p ∷ ps) ≤ (if t then next_after (b + 2) ps else b)
    by true h e rest = subst (λ (t : Bool). (if t then next_after (a + 2) ps else a) ≤ next_after (b + 2) ps) (sym (low_id a b le h)) (rest e)
    by false h e rest = absurd (false≢true (sym e))

-- ---- the store's answers to a look and to a commit

pub look-answered : (config : Config) (h : List Entry) (ws : List Want) → answered config h (call.Look ws) ≡ record { mark = length h; reply = reply.Looked (seen_after h ws) }
unfolding answered
look-answered config h ws = refl

commit-free : (room : Bool) (c : Option ℕ) → (if room then commit_reply c else reply.JournalFull) ≡ reply.Committed → c ≡ None
commit-free true None is = refl
commit-free true (Some place) is = absurd cc
commit-free false c is = absurd cc

pub committed : (config : Config) (h : List Entry) (x : Transaction) → (answered config h (call.Commit (to_commit x))).reply ≡ reply.Committed → conflict x.touched h ≡ None
unfolding answered
committed config h x is = commit-free (has_room config h (wanted config h (call.Commit (to_commit x)))) (conflict x.touched h) is

pub looks-same : LooksAtOwnKeys → (h k : List Entry) (ws : List Want) → AllByRecursion (λ w. value_after (key_of w) h ≡ value_after (key_of w) k) ws → seen_after h ws ≡ seen_after k ws
unfolding seen_after
looks-same law h k ws all = law (λ key. value_after key h) (λ key. value_after key k) 67108864 ws all

-- ---- the law, event by event

module _ (config : Config) (n : ℕ) (h : List Entry) (p : ℕ) where
  -- what is to be shown about the events that are left
  abbrev pub Induction : State → List Event → Type 0
  Induction base es = (x : Transaction) (joiner : Option Awaited) (blobs : ℕ) (ls la : ℤ) (ns na : ℕ) (os oa : List Bool) (bs ba : Subbed) (q : ℕ) (ps : List ℕ) (sent : List Outgoing) (made : List (ℕ × Entry)) (reach : ℕ)
      → Later la ls → na ≤ ns → blobs ≤ 2 ^ 64 - 1 → RisesFrom q ps → AreWithin q x.touched
      → Succeeds config n h p (course (at base ls ns os bs x joiner blobs []) ps sent made reach) es
      → Lawful h p q x.touched (replies config n h (course (at base ls ns os bs x joiner blobs []) ps sent made reach) es)
      (alone config (take p h) (at base la na oa ba (marked (length (take p h)) x) joiner blobs []) (requests config n h (course (at base ls ns os bs x joiner blobs []) ps sent made reach) es))

  -- ---- a session that has ended, and a run that has stopped short, commit nothing
  ended-by : (st : Option Transaction) (kept : Option Pending) (ps : List ℕ) (later : Type 0) → (later → ⊥) → EndsBy config h p st kept None ps later → ⊥
  ended-by None kept ps later fails x = x
  ended-by (Some y) kept ps later fails x = fails x.1

  pub ended-fails : (es : List Event) (e : End) (s : State) (ps : List ℕ) (sent : List Outgoing) (made : List (ℕ × Entry)) (reach : ℕ) → Succeeds config n h p (course (record s { phase = phase.Ended e }) ps sent made reach) es → ⊥
  unfolding takes
  ended-fails [] e s ps sent made reach x = x
  ended-fails (ev ∷ es) e s ps sent made reach x = ended-by s.stage s.pending ps _ (ended-fails es e (drained s) ps (sent ++ s.out) made reach) x

  short-by : (st : Option Transaction) (kept : Option Pending) (k : Option StoreCall) (ps : List ℕ) (later : Type 0) → ps ≡ [] → (later → ⊥) → EndsBy config h p st kept k ps later → ⊥
  short-by None kept None ps later none fails x = x
  short-by None kept (Some k) [] later none fails x = x
  short-by None kept (Some k) (q ∷ qs) later none fails x = absurd cc
  short-by (Some y) kept k ps later none fails x = fails x.1

  pub short-fails : (es : List Event) (c : Course) → c.short ≡ true → c.places ≡ [] → Succeeds config n h p c es → ⊥
  short-fails [] c short none x = x
  short-fails (ev ∷ es) c short none x =
      let stays : happens config n h c ev ≡ c = ap (λ b. happens_unless config n h b c ev) short in
      short-by (takes c.state ev).state.stage (takes c.state ev).state.pending (takes c.state ev).call c.places _ none (λ y. short-fails es c short none (subst (λ d. Succeeds config n h p d es) stays y)) x
