-- The numbers and the lines of statuses.
use Rattle.std.specs.Prelude.{ℕ, List, [], ◌++◌, ◌==◌, codes, if◌then◌else◌}
use Rattle.std.specs.Fmt.{decimal, signed_decimal}
use Rattle.etp_outside.specs.declared.status.Status.{Status}
use Rattle.etp_outside.specs.declared.status.Status.TheVariants.{Done, Usage, Config, Capture, ReadFault, WriteFault, NoMemory, ListenFault, Limit, Refused, LinkFault, Peer, Input, Stopped}

-- the exit status
abbrev pub number_of : Status → ℕ
number_of Done = 0
number_of Usage = 1
number_of (Config cause channel key) = 2
number_of (Capture offset) = 3
number_of ReadFault = 4
number_of WriteFault = 5
number_of NoMemory = 6
number_of ListenFault = 7
number_of Limit = 8
number_of (Refused code) = 9
number_of LinkFault = 10
number_of Peer = 11
number_of (Input line) = 12
number_of Stopped = 16

-- why a configuration was refused
abbrev pub cause_text : ℕ → ℕ → ℕ → List ℕ
cause_text cause channel key =
    if cause == 1 then codes "too long" else (if cause == 2 then codes "toml"
    else (if cause == 3 then codes "key " ++ (decimal key ++ (codes " of channel " ++ decimal channel))
    else (if cause == 4 then codes "too many"
    else (if cause == 5 then codes "uri of channel " ++ decimal channel
    else (if cause == 6 then codes "kind of channel " ++ decimal channel
    else (if cause == 7 then codes "double uri of channel " ++ decimal channel
    else codes "cause " ++ decimal cause))))))

-- the line of a configuration that was refused
abbrev pub refusal_of : ℕ → ℕ → ℕ → List ℕ
refusal_of cause channel key = codes "config refused: " ++ cause_text cause channel key

-- the status line, without a line feed
abbrev pub line_of : Status → List ℕ
line_of Done = []
line_of Usage = codes "usage"
line_of (Config cause channel key) = refusal_of cause channel key
line_of (Capture offset) = codes "capture refused at " ++ decimal offset
line_of ReadFault = codes "read fault"
line_of WriteFault = codes "write fault"
line_of NoMemory = codes "no memory"
line_of ListenFault = codes "listen fault"
line_of Limit = codes "limit"
line_of (Refused code) = codes "refused " ++ signed_decimal code
line_of LinkFault = codes "link fault"
line_of Peer = codes "peer fault"
line_of (Input line) = codes "input line " ++ decimal line
line_of Stopped = codes "stopped"
