-- The frames that are allowed (RFC 6455, sections 5.1 to 5.5), and the codes with which breaches are answered (section 7.4.1).
use Rattle.std.specs.Prelude.{ℕ, Bool, not, ◌&&◌, ◌||◌, is_some, nat_le}
use Rattle.websocket.specs.declared.protocol.config.Role.{Role}
use Rattle.websocket.specs.declared.protocol.config.Role.TheVariants.{Server, Client}
use Rattle.websocket.specs.declared.protocol.frame.coding.OpCode.{OpCode}
use Rattle.websocket.specs.declared.protocol.frame.coding.OpCode.TheVariants.{Control, Data}
use Rattle.websocket.specs.declared.protocol.frame.coding.Data.TheVariants.{Continue, Text, Binary}
use Rattle.websocket.specs.declared.protocol.frame.coding.CloseCode.{CloseCode}
use Rattle.websocket.specs.declared.protocol.frame.coding.CloseCode.TheVariants as code
use Rattle.websocket.specs.declared.protocol.frame.header.FrameHeader.{FrameHeader}
use Rattle.web_frames.specs.declared.breach.Breach.{Breach}
use Rattle.web_frames.specs.declared.breach.Breach.TheVariants.{Protocol, Utf8, TooLong}

-- the code of the Close frame that answers a breach
abbrev pub close_code : Breach → CloseCode
close_code Protocol = code.Protocol
close_code Utf8 = code.Invalid
close_code TooLong = code.Size

-- frames to a server are masked, and those to a client are not
abbrev pub has_mask_of : Role → Bool → Bool
has_mask_of Server masked = masked
has_mask_of Client masked = not masked

-- a control frame is whole and has at most 125 bytes; a continuation follows where a message has begun, and nowhere else
abbrev pub fits_opcode : Bool → Bool → ℕ → OpCode → Bool
fits_opcode within is_final n (Control kind) = is_final && nat_le n 125
fits_opcode within is_final n (Data Continue) = within
fits_opcode within is_final n (Data Text) = not within
fits_opcode within is_final n (Data Binary) = not within

-- no extension is agreed on, so the reserved bits are clear
abbrev pub may_come : Role → Bool → FrameHeader → ℕ → Bool
may_come role within h n =
    not (h.rsv1 || (h.rsv2 || h.rsv3)) && (has_mask_of role (is_some h.mask) && fits_opcode within h.is_final n h.opcode)
