-- What looks find, in the terms of RFC 6455.
use Rattle.std.specs.Prelude.{◌≡◌, ℕ, ◌<◌, Bool, true, List, [], ◌++◌, length, is_some, None, Some, Result, Ok, Err}
use Rattle.websocket.specs.declared.protocol.frame.coding.OpCode.TheVariants.{Data}
use Rattle.websocket.specs.declared.protocol.frame.coding.Data.{Data as DataKind}
use Rattle.websocket.specs.declared.protocol.frame.header.FrameHeader.{FrameHeader}
use Rattle.websocket.specs.Frame.{encode_frame}
use Rattle.websocket.specs.FrameHeader.{IsHeader, IsMask}
use Rattle.websocket.specs.Mask.{apply_mask_if}
use Rattle.web_frames.specs.declared.arrival.Arrival.TheVariants as arrival
use Rattle.web_frames.specs.declared.breach.Breach.{Breach}
use Rattle.web_frames.specs.declared.frames.Frame.{Frame}
use Rattle.web_frames.specs.Headers.{may_come}
use Rattle.web_frames.specs.Messages.{Open, added}
use Rattle.web_frames.specs.Reading.{Look, Reading, begun, finds, look, on_frame_end, on_payload, rest_of}

-- a frame whose whole payload was added to its message, or breaks a rule
abbrev pub on_whole_frame : Reading → Bool → Result Open Breach → Look
on_whole_frame r is_final (Err b) = finds (arrival.Breach b) r
on_whole_frame r is_final (Ok o) = on_frame_end r is_final o

-- an allowed data frame at the front of what has come: its payload is added to its message, unmasked, the message is found if it is the last
-- frame, and the bytes after the frame are left
abbrev pub DataFrameIsTaken : Type 0
DataFrameIsTaken =
    (r : Reading) (h : FrameHeader) (payload rest : List ℕ) (k : DataKind) (o : Open) → IsHeader h (length payload) → h.opcode ≡ Data k
    → may_come r.role (is_some r.message) h (length payload) ≡ true → r.frame ≡ None → begun k r.message ≡ Some o
    → r.input ≡ encode_frame h payload ++ rest
    → look r ≡ on_whole_frame (record r { input = rest; frame = None; message = None }) h.is_final (added o payload)

-- pieces are joined: what is added after a piece is what is added with it
abbrev pub PiecesAreJoined : Type 0
PiecesAreJoined =
    (o joined : Open) (xs ys : List ℕ) → added o xs ≡ Ok joined → added joined ys ≡ added o (xs ++ ys)

-- a payload may be cut anywhere: a first look takes the bytes that have come of it and waits, and the next finds in the others what one look
-- would have found in all of them
abbrev pub PayloadMayBeCut : Type 0
PayloadMayBeCut =
    (r : Reading) (f : Frame) (o after : Open) (xs ys : List ℕ) → IsMask f.key → r.message ≡ Some o → length xs < f.left
    → added o (apply_mask_if f.key xs) ≡ Ok after
    → (on_payload (record r { input = xs }) f ≡ finds arrival.Nothing (record r { input = []; frame = Some (rest_of f (length xs)); message = Some after }))
    × (on_payload (record r { input = xs ++ ys }) f ≡ on_payload (record r { input = ys; message = Some after }) (rest_of f (length xs)))
