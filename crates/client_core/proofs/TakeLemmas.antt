-- Messages that are read, and refusals.
use Rattle.std.specs.Prelude.{◌≡◌, ℕ, true, false, List, None, Ok, Err}
use Rattle.std.proofs.Common.{ap, ◌∙◌}
use Rattle.etp_schema.specs.declared.body.Side.TheVariants.{Server}
use Rattle.etp_frame.specs.Joining.{joins}
use Rattle.etp_frame.specs.Reading.{read_of}
use Rattle.etp_frame.specs.declared.error.FrameError.{FrameError}
use Rattle.etp_frame.specs.declared.header.Header.{Header}
use Rattle.etp_frame.specs.declared.joining.JoinError.{JoinError}
use Rattle.etp_frame.specs.declared.message.Message.{Message}
use Rattle.client_core.specs.State.{Heard, is_ended}
use Rattle.client_core.specs.Taking.{by_kind, by_phase, fails, hears, on_bytes, on_joined, on_read}
use Rattle.client_core.specs.declared.got.ClientError.TheVariants as error

pub join_refused : (h : Header) (m : Message) (e : JoinError) (s : Heard) → joins s.joiner h m ≡ Err e → by_kind true h m s ≡ fails (error.Join e) (record s { joiner = None })
join_refused h m e s is = ap (λ r. on_joined h r s) is

pub read_so : (bytes : List ℕ) (h : Header) (m : Message) (s : Heard) → is_ended s.phase ≡ false → read_of Server bytes ≡ Ok (h, m) → hears s bytes ≡ on_read h m s
unfolding hears
read_so bytes h m s open_so is = ap (λ b. by_phase b bytes s) open_so ∙ ap (λ r. on_bytes r s) is

pub frame_refused : (bytes : List ℕ) (e : FrameError) (s : Heard) → is_ended s.phase ≡ false → read_of Server bytes ≡ Err e → hears s bytes ≡ fails (error.Frame e) s
unfolding hears
frame_refused bytes e s open_so is = ap (λ b. by_phase b bytes s) open_so ∙ ap (λ r. on_bytes r s) is
