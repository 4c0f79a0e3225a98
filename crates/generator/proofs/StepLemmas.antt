-- A frame that was made of a message.
use Rattle.std.proofs.Common.{◌≡◌, ℕ, ap, ◌∙◌, Result, Ok, Err, IfOk}
use Rattle.etp_values.specs.declared.memory.NoMemory.{NoMemory}
use Rattle.etp_capture.specs.declared.frame.Frame.{Frame}
use Rattle.etp_frame.specs.declared.message.Message.{Message}
use Rattle.generator.specs.Generator.{message_at, frame_of, message_frame}

pub framed : (x j : ℕ) (message : Message) (r : Result Frame NoMemory) → message ≡ message_at x j → IfOk r (λ f. f ≡ frame_of j message) → IfOk r (λ f. f ≡ message_frame x j)
unfolding message_frame
framed x j message (Ok f) is made = made ∙ ap (frame_of j) is
framed x j message (Err e) is made = tt
