-- The kinds of frames, by the numbers that are in a capture.
use Rattle.std.specs.Prelude.{ℕ}

-- a message from the client
abbrev pub kind_in : ℕ
kind_in = 1

-- one poll of the session
abbrev pub kind_poll : ℕ
kind_poll = 2

-- the end of the client's messages
abbrev pub kind_end : ℕ
kind_end = 3

-- a message from the server
abbrev pub kind_out : ℕ
kind_out = 17

-- the end of the session
abbrev pub kind_ended : ℕ
kind_ended = 19
