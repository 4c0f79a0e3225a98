-- A look, step by step.
use Rattle.std.proofs.Common.{◌≡◌, ℕ, ◌≤◌, Bool, true, false, List, [], length, take, drop, min, refl, sym, subst, ap, ◌∙◌, arith, inl, inr, Result, Ok, Err, Option, None, Some}
use Rattle.std.specs.Prelude.{nat_lt, option_map}
use Rattle.std.proofs.lemmas.Bool.Decides.{nat_tests}
use Rattle.std.proofs.lemmas.List.{length-take-le}
use Rattle.websocket.specs.declared.error.Error.{Error}
use Rattle.websocket.specs.declared.error.Error.TheVariants as error
use Rattle.websocket.specs.declared.protocol.config.Role.{Role}
use Rattle.websocket.specs.declared.protocol.context.Step.{Step}
use Rattle.websocket.specs.declared.protocol.frame.codec.FrameStatus.{FrameStatus}
use Rattle.websocket.specs.declared.protocol.frame.codec.FrameStatus.TheVariants.{Partial, Complete}
use Rattle.websocket.specs.declared.protocol.frame.coding.Data.{Data}
use Rattle.websocket.specs.declared.protocol.frame.coding.Data.TheVariants as kinds
use Rattle.websocket.specs.declared.protocol.frame.coding.OpCode.TheVariants as opcode
use Rattle.websocket.specs.declared.protocol.frame.header.FrameHeader.{FrameHeader}
use Rattle.websocket.specs.declared.protocol.message.Received.{Received}
use Rattle.websocket.specs.declared.protocol.message.Received.TheVariants as received
use Rattle.websocket.specs.Connection.{Connection, Effect, Outgoing, Sends, failed_connection}
use Rattle.websocket.specs.Content.{received_content}
use Rattle.websocket.specs.FrameHeader.{decode_header, header_len}
use Rattle.websocket.specs.Mask.{apply_mask_if}
use Rattle.websocket.specs.View.{GivesError, ReadLeaves, Returns}
use Rattle.websocket.proofs.MaskLemmas.{length-apply_mask_if}
use Rattle.web_frames.specs.declared.arrival.Arrival.{Arrival}
use Rattle.web_frames.specs.declared.arrival.Arrival.TheVariants as arrival
use Rattle.web_frames.specs.declared.breach.Breach.{Breach}
use Rattle.web_frames.specs.declared.breach.Breach.TheVariants as breach
use Rattle.web_frames.specs.declared.coming.Kind.TheVariants as kind
use Rattle.web_frames.specs.declared.coming.Unadded.{Unadded}
use Rattle.web_frames.specs.declared.coming.Unadded.TheVariants as unadded
use Rattle.web_frames.specs.declared.frames.Frame.{Frame}
use Rattle.web_frames.specs.declared.utf8.Utf8.TheVariants as utf8
use Rattle.web_frames.specs.Messages.{Adds, HandsOn, Open, added, finished, handed_on, is_short, opened}
use Rattle.web_frames.specs.Reading.{Answers, Finds, IsMessage, Look, Reading, begun, breach_of, control_found, finds, look, look_at, on_added, on_control, on_data, on_finished, on_frame_end, on_header, on_judged, on_opcode, on_payload, on_piece, on_taken, refusal_of, step_found, unadded_found}
use Rattle.web_frames.proofs.MessageLemmas.{added-whole}

-- ---- what is known

abbrev pub reading : Role → Connection → List ℕ → Option Frame → Option Open → Reading
reading role connection input frame message = record { role = role; connection = connection; input = input; frame = frame; message = message }

pub same_reading : (role : Role) (c d : Connection) (i j : List ℕ) (f g : Option Frame) (m n : Option Open) → c ≡ d → i ≡ j → f ≡ g → m ≡ n
    → reading role c i f m ≡ reading role d j g n
same_reading role c d i j f g m n same_c same_i same_f same_m =
    ap (λ c. reading role c i f m) same_c ∙ ap (λ i. reading role d i f m) same_i ∙ ap (λ f. reading role d j f m) same_f ∙ ap (reading role d j g) same_m

-- ---- what is found, and what is answered

pub finds_any : (l : Look) (a : Arrival) (new : Reading) → l.found ≡ a → l.next ≡ new → Finds l a new
finds_any l arrival.NoMemory new f n = tt
finds_any l (arrival.Message m) new f n = (f, n)
finds_any l (arrival.Breach b) new f n = (f, n)
finds_any l arrival.Frame new f n = (f, n)
finds_any l arrival.Nothing new f n = (f, n)
finds_any l arrival.End new f n = (f, n)

sends_nothing : (role : Role) (reply : Option Outgoing) (old new : List ℕ) → reply ≡ None → new ≡ old → Sends role reply old new
sends_nothing role reply old new none same = subst (λ o. Sends role o old new) (sym none) same

pub answers_nothing : (l : Look) (a : Arrival) (old new : List ℕ) → l.reply ≡ None → new ≡ old → Answers l a old new
answers_nothing l arrival.NoMemory old new none same = same
answers_nothing l (arrival.Message m) old new none same = sends_nothing l.next.connection.role l.reply old new none same
answers_nothing l (arrival.Breach b) old new none same = sends_nothing l.next.connection.role l.reply old new none same
answers_nothing l arrival.Frame old new none same = sends_nothing l.next.connection.role l.reply old new none same
answers_nothing l arrival.Nothing old new none same = sends_nothing l.next.connection.role l.reply old new none same
answers_nothing l arrival.End old new none same = sends_nothing l.next.connection.role l.reply old new none same

-- ---- data frames

pub on_payload-none : (r : Reading) (f : Frame) → r.message ≡ None
    → on_payload r f ≡ finds (arrival.Breach breach.Protocol) (record r { frame = None })
unfolding on_payload
on_payload-none r f none = ap (on_piece r f (min f.left (length r.input))) none

pub on_payload-some : (r : Reading) (f : Frame) (o : Open) (n : ℕ) → r.message ≡ Some o → n ≡ min f.left (length r.input)
    → on_payload r f ≡ on_added (record r { input = drop n r.input; frame = None; message = None }) f n (added o (apply_mask_if f.key (take n r.input)))
unfolding on_payload
on_payload-some r f o n some least = ap (on_piece r f (min f.left (length r.input))) some ∙ ap (λ n. on_piece r f n (Some o)) (sym least)

on_piece-frame : (r : Reading) (f : Frame) (n : ℕ) (m : Option Open) → on_piece r f n m ≡ on_piece (record r { frame = None }) f n m
on_piece-frame r f n None = refl
on_piece-frame r f n (Some o) = refl

-- what was known of a frame does not count when it is taken up
pub on_payload-frame : (r : Reading) (f : Frame) → on_payload r f ≡ on_payload (record r { frame = None }) f
unfolding on_payload
on_payload-frame r f = on_piece-frame r f (min f.left (length r.input)) r.message

on_finished-reply : (r : Reading) (e : Result (List ℕ) Breach) → (on_finished r e).reply ≡ None
on_finished-reply r (Ok m) = refl
on_finished-reply r (Err b) = refl

on_frame_end-reply : (r : Reading) (b : Bool) (o : Open) → (on_frame_end r b o).reply ≡ None
on_frame_end-reply r true o = on_finished-reply r (finished o)
on_frame_end-reply r false o = refl

on_taken-reply : (r : Reading) (f : Frame) (n : ℕ) (o : Open) (b : Bool) → (on_taken r f n o b).reply ≡ None
on_taken-reply r f n o true = refl
on_taken-reply r f n o false = on_frame_end-reply r f.is_final o

on_added-reply : (r : Reading) (f : Frame) (n : ℕ) (e : Result Open Breach) → (on_added r f n e).reply ≡ None
on_added-reply r f n (Ok o) = on_taken-reply r f n o (nat_lt n f.left)
on_added-reply r f n (Err b) = refl

on_piece-reply : (r : Reading) (f : Frame) (n : ℕ) (m : Option Open) → (on_piece r f n m).reply ≡ None
on_piece-reply r f n None = refl
on_piece-reply r f n (Some o) =
    on_added-reply (record r { input = drop n r.input; frame = None; message = None }) f n (added o (apply_mask_if f.key (take n r.input)))

-- a data frame is not answered
pub on_payload-reply : (r : Reading) (f : Frame) → (on_payload r f).reply ≡ None
unfolding on_payload
on_payload-reply r f = on_piece-reply r f (min f.left (length r.input)) r.message

pub on_data-reply : (r : Reading) (h : FrameHeader) (n : ℕ) (k : Data) → (on_data r h n k).reply ≡ None
unfolding on_data
on_data-reply r h n k =
    on_payload-reply (record r { input = drop (header_len h n) r.input; message = begun k r.message })
    (record { left = n; key = h.mask; is_final = h.is_final })

pub on_data-is : (r : Reading) (h : FrameHeader) (n : ℕ) (k : Data)
    → on_data r h n k ≡ on_payload (record r { input = drop (header_len h n) r.input; message = begun k r.message }) (record { left = n; key = h.mask; is_final = h.is_final })
unfolding on_data
on_data-is r h n k = refl

pub min_here : (n m : ℕ) → n ≤ m → n ≡ min n m
min_here n m h = omega arith

pub not_below : (n : ℕ) → nat_lt n n ≡ false
not_below n = grind (arith, nat_tests)

abbrev whole_open : ℕ → List ℕ → Open
whole_open n bytes = record { kind = kind.Binary; count = n; bytes = bytes; text = utf8.Whole }

-- a binary message that is one frame, and has come
pub on_data-whole : (r : Reading) (h : FrameHeader) (n : ℕ) (rest : List ℕ) → h.is_final ≡ true → is_short n ≡ true
    → rest ≡ drop (header_len h n) r.input → n ≤ length rest
    → on_data r h n kinds.Binary ≡ finds (arrival.Message (apply_mask_if h.mask (take n rest))) (record r { input = drop n rest; frame = None; message = None })
on_data-whole r h n rest final short is here =
    let long : length (apply_mask_if h.mask (take n rest)) ≡ n = length-apply_mask_if h.mask (take n rest) ∙ length-take-le n rest here in
    on_data-is r h n kinds.Binary
    ∙ ap (λ i. on_payload (record r { input = i; message = Some (opened kind.Binary) }) (record { left = n; key = h.mask; is_final = h.is_final })) (sym is)
    ∙ on_payload-some (record r { input = rest; message = Some (opened kind.Binary) }) (record { left = n; key = h.mask; is_final = h.is_final }) (opened kind.Binary) n refl (min_here n (length rest) here)
    ∙ ap (on_added (record r { input = drop n rest; frame = None; message = None }) (record { left = n; key = h.mask; is_final = h.is_final }) n) (added-whole (apply_mask_if h.mask (take n rest)) n long short)
    ∙ ap (on_taken (record r { input = drop n rest; frame = None; message = None }) (record { left = n; key = h.mask; is_final = h.is_final }) n (whole_open n (apply_mask_if h.mask (take n rest)))) (not_below n)
    ∙ ap (λ b. on_frame_end (record r { input = drop n rest; frame = None; message = None }) b (whole_open n (apply_mask_if h.mask (take n rest)))) final
    ∙ ap (λ b. on_finished (record r { input = drop n rest; frame = None; message = None }) (handed_on kind.Binary b (apply_mask_if h.mask (take n rest)) utf8.Whole)) short

pub finds_unadded : (r : Reading) (f : Frame) (n : ℕ) (x : Result Open Breach) (why : Unadded) (new : Open) → Adds x (Err why) new
    → Finds (on_added r f n x) (unadded_found why) r
finds_unadded r f n x (unadded.Breach b) new h = subst (λ x. Finds (on_added r f n x) (arrival.Breach b) r) (sym h) (refl, refl)
finds_unadded r f n x unadded.NoMemory new h = tt

pub finds_message : (bytes : List ℕ) (a : Arrival) (r new : Reading) → IsMessage a bytes → r ≡ new → Finds (finds (arrival.Message bytes) r) a new
finds_message bytes (arrival.Message m) r new h e = (ap (λ m. arrival.Message m) (sym h), e)
finds_message bytes arrival.NoMemory r new h e = tt
finds_message bytes arrival.Frame r new h e = absurd h
finds_message bytes arrival.Nothing r new h e = absurd h
finds_message bytes arrival.End r new h e = absurd h
finds_message bytes (arrival.Breach b) r new h e = absurd h

-- ---- control frames

pub on_control-waits : (r : Reading) (x : Result (FrameStatus (ℕ × Effect)) Error) (n : ℕ) (input : List ℕ)
    → Returns x input (Partial n) → on_control r x ≡ finds arrival.Nothing r
unfolding on_control
on_control-waits r (Err e) n input h = absurd h
on_control-waits r (Ok (Partial k)) n input h = refl
on_control-waits r (Ok (Complete p)) n input h = absurd h

pub read_leaves-waits : (x : Result (FrameStatus (ℕ × Effect)) Error) (n : ℕ) (input old new : List ℕ) (before after : Connection)
    → Returns x input (Partial n) → ReadLeaves x before after old new → (after ≡ before) × (new ≡ old)
read_leaves-waits (Err e) n input old new before after h l = absurd h
read_leaves-waits (Ok (Partial k)) n input old new before after h l = l
read_leaves-waits (Ok (Complete p)) n input old new before after h l = absurd h

control_found-received : (input : List ℕ) (m : Option Received) → control_found (option_map (received_content input) m) ≡ step_found m
control_found-received input None = refl
control_found-received input (Some (received.Text p)) = refl
control_found-received input (Some (received.Binary p)) = refl
control_found-received input (Some (received.Ping p)) = refl
control_found-received input (Some (received.Pong p)) = refl
control_found-received input (Some (received.Close None)) = refl
control_found-received input (Some (received.Close (Some p))) = refl

pub on_control-takes : (r : Reading) (x : Result (FrameStatus (ℕ × Effect)) Error) (step : Step) (input rest old new : List ℕ) (after : Connection)
    → Returns x input (Complete step) → ReadLeaves x r.connection after old new → rest ≡ drop step.consumed r.input
    → Finds (on_control r x) (step_found step.message) (record r { connection = after; input = rest })
unfolding on_control
on_control-takes r (Err e) step input rest old new after h l is = absurd h
on_control-takes r (Ok (Partial k)) step input rest old new after h l is = cc
on_control-takes r (Ok (Complete p)) step input rest old new after h l is =
    finds_any (on_control r (Ok (Complete p))) (step_found step.message) (record r { connection = after; input = rest })
    (ap control_found (sym h.1.0) ∙ control_found-received input step.message)
    (ap (λ c. record r { connection = c; input = drop p.0 r.input }) (sym l.0)
    ∙ ap (λ n. record r { connection = after; input = drop n r.input }) (sym h.0)
    ∙ ap (λ i. record r { connection = after; input = i }) (sym is))

answers_step : (l : Look) (m : Option Received) (old new : List ℕ) → Sends l.next.connection.role l.reply old new → Answers l (step_found m) old new
answers_step l None old new s = s
answers_step l (Some (received.Text p)) old new s = s
answers_step l (Some (received.Binary p)) old new s = s
answers_step l (Some (received.Ping p)) old new s = s
answers_step l (Some (received.Pong p)) old new s = s
answers_step l (Some (received.Close p)) old new s = s

pub on_control-answers : (r : Reading) (x : Result (FrameStatus (ℕ × Effect)) Error) (step : Step) (input old new : List ℕ) (after : Connection)
    → Returns x input (Complete step) → ReadLeaves x r.connection after old new
    → Answers (on_control r x) (step_found step.message) old new
unfolding on_control
on_control-answers r (Err e) step input old new after h l = absurd h
on_control-answers r (Ok (Partial k)) step input old new after h l = cc
on_control-answers r (Ok (Complete p)) step input old new after h l =
    answers_step (on_control r (Ok (Complete p))) step.message old new (subst (λ c. Sends c.role p.1.reply old new) l.0 l.1)

finds_refused : (r : Reading) (e : Error) → Finds (finds (arrival.Breach (breach_of e)) r) (refusal_of e) r
finds_refused r error.ConnectionClosed = (refl, refl)
finds_refused r error.AlreadyClosed = (refl, refl)
finds_refused r (error.Capacity c) = (refl, refl)
finds_refused r (error.Protocol p) = (refl, refl)
finds_refused r error.Utf8 = (refl, refl)
finds_refused r error.OutOfMemory = tt

pub on_control-refused : (r : Reading) (x : Result (FrameStatus (ℕ × Effect)) Error) (e : Error) → GivesError x e
    → Finds (on_control r x) (refusal_of e) (record r { connection = failed_connection r.connection; input = [] })
unfolding on_control
on_control-refused r x e (inl out) =
    subst (λ e. Finds (on_control r x) (refusal_of e) (record r { connection = failed_connection r.connection; input = [] })) (sym out) tt
on_control-refused r x e (inr is) =
    subst (λ x. Finds (on_control r x) (refusal_of e) (record r { connection = failed_connection r.connection; input = [] })) (sym is)
    (finds_refused (record r { connection = failed_connection r.connection; input = [] }) e)

pub on_control-unanswered : (r : Reading) (x : Result (FrameStatus (ℕ × Effect)) Error) (e : Error) (old new : List ℕ) → GivesError x e
    → new ≡ old → Answers (on_control r x) (refusal_of e) old new
unfolding on_control
on_control-unanswered r x e old new (inl out) same =
    subst (λ e. Answers (on_control r x) (refusal_of e) old new) (sym out) same
on_control-unanswered r x e old new (inr is) same =
    subst (λ x. Answers (on_control r x) (refusal_of e) old new) (sym is)
    (answers_nothing (on_control r (Err e)) (refusal_of e) old new refl same)

-- ---- a look

pub look-some : (r : Reading) (f : Frame) → r.frame ≡ Some f → look r ≡ on_payload (record r { frame = None }) f
unfolding look
look-some r f some = ap (look_at r) some ∙ on_payload-frame r f

pub look-none : (r : Reading) → r.frame ≡ None → look r ≡ on_header r (decode_header r.input)
unfolding look
look-none r none = ap (look_at r) none

pub on_judged-reply : (r : Reading) (h : FrameHeader) (n : ℕ) (b : Bool) (k : Data) → h.opcode ≡ opcode.Data k → (on_judged r h n b).reply ≡ None
on_judged-reply r h n true k is = ap (λ o. (on_opcode r h n o).reply) is ∙ on_data-reply r h n k
on_judged-reply r h n false k is = refl
