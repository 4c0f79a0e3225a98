-- How the cause that refuses a message is shown.
use Rattle.std.specs.Prelude.{ℕ, List, [], ◌++◌, codes}
use Rattle.std.specs.Fmt.{decimal, signed_decimal}
use Rattle.avro_bin.specs.declared.refusal.Refusal.{Refusal}
use Rattle.avro_bin.specs.declared.refusal.Refusal.TheVariants as r
use Rattle.etp_frame.specs.declared.error.FrameError.{FrameError}
use Rattle.etp_frame.specs.declared.error.FrameError.TheVariants as f

-- why an item is refused, and its offset; running out of memory is not such a cause
abbrev pub refusal_text : Refusal → List ℕ
refusal_text (r.Short offset) = codes "short " ++ decimal offset
refusal_text (r.Number offset) = codes "number " ++ decimal offset
refusal_text (r.Range offset) = codes "range " ++ decimal offset
refusal_text (r.Bool offset) = codes "boolean " ++ decimal offset
refusal_text (r.Branch offset) = codes "branch " ++ decimal offset
refusal_text (r.Utf8 offset) = codes "utf8 " ++ decimal offset
refusal_text (r.Length offset) = codes "length " ++ decimal offset
refusal_text (r.BlockSize offset) = codes "blocksize " ++ decimal offset
refusal_text (r.DoubleKey offset) = codes "doublekey " ++ decimal offset
refusal_text (r.Limit offset) = codes "limit " ++ decimal offset
refusal_text r.NoMemory = []

-- why a message is refused
abbrev pub fault_text : FrameError → List ℕ
fault_text (f.Header refusal) = codes "header " ++ refusal_text refusal
fault_text (f.Extension h) = codes "extension"
fault_text (f.Compressed h) = codes "compressed"
fault_text (f.UnknownProtocol h) = codes "protocol " ++ signed_decimal h.protocol
fault_text (f.UnknownKind h) = codes "message type " ++ signed_decimal h.kind
fault_text (f.Body h refusal) = codes "body " ++ refusal_text refusal
fault_text (f.Rest h offset) = codes "rest " ++ decimal offset
fault_text f.NoMemory = []
