-- Looks at whole frames, and pieces that are joined.
use Rattle.std.proofs.Common.{◌≡◌, ℕ, ◌≤◌, Bool, true, List, ◌++◌, length, take, drop, refl, sym, ap, ◌∙◌, arith, append_assoc, length-append, Result, Ok, Err, None, Some}
use Rattle.std.specs.Prelude.{nat_lt, is_some}
use Rattle.std.proofs.lemmas.List.{take_at, drop_at}
use Rattle.websocket.specs.declared.protocol.frame.coding.OpCode.TheVariants as opcode
use Rattle.websocket.specs.declared.protocol.frame.coding.Data.{Data}
use Rattle.websocket.specs.declared.protocol.frame.header.FrameHeader.{FrameHeader}
use Rattle.websocket.specs.Frame.{encode_frame}
use Rattle.websocket.specs.FrameHeader.{IsHeader, decode_header, encode_header, header_len}
use Rattle.websocket.specs.Mask.{apply_mask_if}
use Rattle.websocket.proofs.FrameHeaderLemmas.{decode_header-encode_header, length-encode_header}
use Rattle.websocket.proofs.MaskLemmas.{apply_mask_if-apply_mask_if, length-apply_mask_if}
use Rattle.web_frames.specs.declared.breach.Breach.{Breach}
use Rattle.web_frames.specs.declared.frames.Frame.{Frame}
use Rattle.web_frames.specs.Headers.{may_come}
use Rattle.web_frames.specs.Laws.{on_whole_frame}
use Rattle.web_frames.specs.Messages.{Open, added}
use Rattle.web_frames.specs.Reading.{Reading, begun, look, on_added, on_header, on_judged, on_opcode, on_payload, on_taken}
use Rattle.web_frames.proofs.LookLemmas.{look-none, min_here, not_below, on_data-is, on_payload-some}

-- a piece that is all that was left of its frame
on_added-whole : (r : Reading) (f : Frame) (n : ℕ) (e : Result Open Breach) → n ≡ f.left → on_added r f n e ≡ on_whole_frame r f.is_final e
on_added-whole r f n (Err b) all = refl
on_added-whole r f n (Ok o) all = ap (on_taken r f n o) (ap (nat_lt n) (sym all) ∙ not_below n)

-- the frame at the front of what has come, behind its header
on_payload-whole : (r : Reading) (f : Frame) (o : Open) (masked payload rest : List ℕ) → r.message ≡ Some o → r.input ≡ masked ++ rest
    → length masked ≡ f.left → apply_mask_if f.key masked ≡ payload
    → on_payload r f ≡ on_whole_frame (record r { input = rest; frame = None; message = None }) f.is_final (added o payload)
on_payload-whole r f o masked payload rest some is long unmasked =
    let inside : f.left ≤ length r.input = omega (arith, ap length is, length-append masked rest) in
    on_payload-some r f o f.left some (min_here f.left (length r.input) inside)
    ∙ ap (λ i. on_added (record r { input = i; frame = None; message = None }) f f.left (added o (apply_mask_if f.key (take f.left r.input)))) (ap (drop f.left) is ∙ drop_at masked rest f.left long)
    ∙ ap (λ p. on_added (record r { input = rest; frame = None; message = None }) f f.left (added o p)) (ap (λ i. apply_mask_if f.key (take f.left i)) is ∙ ap (apply_mask_if f.key) (take_at masked rest f.left long) ∙ unmasked)
    ∙ on_added-whole (record r { input = rest; frame = None; message = None }) f f.left (added o payload) refl

on_judged-may : (r : Reading) (h : FrameHeader) (n : ℕ) (b : Bool) → b ≡ true → on_judged r h n b ≡ on_opcode r h n h.opcode
on_judged-may r h n b is = ap (on_judged r h n) is

pub look-data : (r : Reading) (h : FrameHeader) (payload rest : List ℕ) (k : Data) (o : Open) → IsHeader h (length payload) → h.opcode ≡ opcode.Data k
    → may_come r.role (is_some r.message) h (length payload) ≡ true → r.frame ≡ None → begun k r.message ≡ Some o
    → r.input ≡ encode_frame h payload ++ rest
    → look r ≡ on_whole_frame (record r { input = rest; frame = None; message = None }) h.is_final (added o payload)
look-data r h payload rest k o fits code may none some is =
    let n : ℕ = length payload in
    let masked : List ℕ = apply_mask_if h.mask payload in
    let split : r.input ≡ encode_header h (length payload) ++ (apply_mask_if h.mask payload ++ rest)
    = is ∙ append_assoc (encode_header h (length payload)) (apply_mask_if h.mask payload) rest in
    let header = ap decode_header split ∙ decode_header-encode_header h (length payload) (apply_mask_if h.mask payload ++ rest) fits in
    let behind : drop (header_len h (length payload)) r.input ≡ apply_mask_if h.mask payload ++ rest
    = ap (drop (header_len h (length payload))) split
    ∙ drop_at (encode_header h (length payload)) (apply_mask_if h.mask payload ++ rest) (header_len h (length payload)) (length-encode_header h (length payload) fits.mask) in
    look-none r none
    ∙ ap (on_header r) header
    ∙ on_judged-may r h (length payload) (may_come r.role (is_some r.message) h (length payload)) may
    ∙ ap (on_opcode r h (length payload)) code
    ∙ on_data-is r h (length payload) k
    ∙ on_payload-whole (record r { input = drop (header_len h (length payload)) r.input; message = begun k r.message }) (record { left = length payload; key = h.mask; is_final = h.is_final }) o
    (apply_mask_if h.mask payload) payload rest some behind (length-apply_mask_if h.mask payload) (apply_mask_if-apply_mask_if h.mask payload)
