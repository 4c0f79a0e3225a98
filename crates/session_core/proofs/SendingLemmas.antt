-- Numbering the parts of what is sent continues by one part.
use Rattle.std.specs.Prelude.{ℕ, Bool, true, false, List, [], ◌∷◌, ◌++◌, ◌≡◌, ◌+◌, ◌-◌, ◌≤◌, ◌==◌, length, nat_le, if◌then◌else◌, refl}
use Rattle.std.proofs.lemmas.Bool.Decides.{nat_tests}
use Rattle.std.proofs.Common.{ap, sym, ◌∙◌, arith, append_assoc, le-leb}
use Rattle.etp_frame.specs.declared.message.Message.{Message}
use Rattle.session_core.specs.declared.state.Addressee.{Addressee}
use Rattle.session_core.specs.declared.state.Outgoing.{Outgoing}
use Rattle.session_core.specs.declared.state.Part.{Part}
use Rattle.session_core.specs.declared.state.Request.{Request}
use Rattle.session_core.specs.Sending.{ended, max_id, numbered, is_reply, is_spent, next_after, outgoing, replies_in}

-- ---- one more part is numbered

numbered-more : (r : Request) (id : ℕ) (p : Part) (ps : List Part) → id ≤ max_id → numbered r id (p ∷ ps) ≡ outgoing r id (replies_in ps) p ∷ numbered r (id + 2) ps
numbered-more r id p ps low = let e : nat_le id max_id ≡ true = le-leb id max_id low in rw e refl

next_after-more : (id : ℕ) (p : Part) (ps : List Part) → id ≤ max_id → next_after id (p ∷ ps) ≡ next_after (id + 2) ps
next_after-more id p ps low = let e : nat_le id max_id ≡ true = le-leb id max_id low in rw e refl

is_spent-more : (id : ℕ) (p : Part) (ps : List Part) → id ≤ max_id → is_spent id (p ∷ ps) ≡ is_spent (id + 2) ps
is_spent-more id p ps low = let e : nat_le id max_id ≡ true = le-leb id max_id low in rw e refl

-- of the parts that are left to the request, those after this one
pub left_more : (p : Part) (items rest : List Part) (left one : ℕ) → items ≡ p ∷ rest → one ≡ (if is_reply p.to then 1 else 0) → left ≡ replies_in items → left - one ≡ replies_in rest
left_more p items rest left one is counts whole =
    let e : left ≡ (if is_reply p.to then 1 else 0) + replies_in rest = whole ∙ ap replies_in is in
    let f : left ≡ one + replies_in rest = e ∙ ap (λ n. n + replies_in rest) (sym counts) in
    omega arith

-- and this one is among them
pub one_left : (p : Part) (items rest : List Part) (left one : ℕ) → items ≡ p ∷ rest → one ≡ (if is_reply p.to then 1 else 0) → left ≡ replies_in items → one ≤ left
one_left p items rest left one is counts whole =
    let e : left ≡ (if is_reply p.to then 1 else 0) + replies_in rest = whole ∙ ap replies_in is in
    let f : left ≡ one + replies_in rest = e ∙ ap (λ n. n + replies_in rest) (sym counts) in
    omega arith

pub parts_more : (r : Request) (id left : ℕ) (p : Part) (items rest : List Part) (old now all : List Outgoing) (out : Outgoing) → id ≤ max_id → items ≡ p ∷ rest → left ≡ replies_in rest
    → out ≡ outgoing r id left p → now ≡ old ++ out ∷ [] → old ++ numbered r id items ≡ all → now ++ numbered r (id + 2) rest ≡ all
parts_more r id left p items rest old now all out low is whole value pushed so_far =
    ap (λ l. l ++ numbered r (id + 2) rest) pushed
    ∙ append_assoc old (out ∷ []) (numbered r (id + 2) rest)
    ∙ ap (λ o. old ++ o ∷ numbered r (id + 2) rest) (value ∙ ap (λ n. outgoing r id n p) whole)
    ∙ ap (λ l. old ++ l) (sym (ap (λ l. numbered r id l) is ∙ numbered-more r id p rest low))
    ∙ so_far

pub next_more : (id next : ℕ) (p : Part) (items rest : List Part) → id ≤ max_id → items ≡ p ∷ rest → next_after id items ≡ next → next_after (id + 2) rest ≡ next
next_more id next p items rest low is so_far = sym (ap (λ l. next_after id l) is ∙ next_after-more id p rest low) ∙ so_far

pub spent_more : (id : ℕ) (spent : Bool) (p : Part) (items rest : List Part) → id ≤ max_id → items ≡ p ∷ rest → is_spent id items ≡ spent → is_spent (id + 2) rest ≡ spent
spent_more id spent p items rest low is so_far = sym (ap (λ l. is_spent id l) is ∙ is_spent-more id p rest low) ∙ so_far

-- ---- one more part of a message

-- a message followed by this many is the last one exactly if there are none
abbrev part_of : Addressee → Message → Bool → Part
part_of to m last = record { to = to; message = m; last = last }

ended-more : (to : Addressee) (m : Message) (ms : List Message) → ended to (m ∷ ms) ≡ part_of to m (length ms == 0) ∷ ended to ms
ended-more to m [] = refl
ended-more to m (n ∷ ms) =
    let e : (length (n ∷ ms) == 0) ≡ false = grind (arith, nat_tests) in
    ap (λ (b : Bool). part_of to m b ∷ ended to (n ∷ ms)) (sym e)

pub ended_more : (to : Addressee) (m : Message) (items rest : List Message) (last : Bool) (old now all : List Part) → items ≡ m ∷ rest → last ≡ (length rest == 0)
    → now ≡ old ++ part_of to m last ∷ [] → old ++ ended to items ≡ all → now ++ ended to rest ≡ all
ended_more to m items rest last old now all is ends pushed so_far =
    ap (λ l. l ++ ended to rest) pushed
    ∙ append_assoc old (part_of to m last ∷ []) (ended to rest)
    ∙ ap (λ b. old ++ part_of to m b ∷ ended to rest) ends
    ∙ ap (λ l. old ++ l) (sym (ap (λ l. ended to l) is ∙ ended-more to m rest))
    ∙ so_far
