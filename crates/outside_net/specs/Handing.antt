-- What a link hands on.
use Rattle.web_frames.specs.declared.arrival.Arrival.{Arrival}
use Rattle.web_frames.specs.declared.arrival.Arrival.TheVariants as arrival
use Rattle.etp_outside.specs.declared.link.Recv.{Recv}
use Rattle.etp_outside.specs.declared.link.Recv.TheVariants as recv

-- for what was found in the bytes that have come: a breach fails the link
abbrev pub recv_of : Arrival → Recv
recv_of (arrival.Message m) = recv.Got m
recv_of arrival.Frame = recv.Idle
recv_of arrival.Nothing = recv.Idle
recv_of arrival.End = recv.End
recv_of (arrival.Breach b) = recv.Failed
recv_of arrival.NoMemory = recv.NoMemory
