-- Why a connection was given no link, in words.
use Rattle.std.specs.Prelude.{ℕ, List, codes}
use Rattle.outside_net.specs.declared.refusal.Refusal.{Refusal}
use Rattle.outside_net.specs.declared.refusal.Refusal.TheVariants.{NotHttp, TooLong, Behind, Late, Method, Host, NoUpgrade, Version, Versions, Key, NoPlace, Left}

abbrev pub words_of : Refusal → List ℕ
words_of NotHttp = codes "this is not an HTTP request"
words_of TooLong = codes "the request is too long"
words_of Behind = codes "something follows the request before it is answered"
words_of Late = codes "the request did not come in time"
words_of Method = codes "the method is not GET"
words_of Host = codes "the request has no Host, or several"
words_of NoUpgrade = codes "the request asks for no WebSocket over HTTP/1.1"
words_of Version = codes "Sec-WebSocket-Version is not 13"
words_of Versions = codes "Sec-WebSocket-Version is there twice"
words_of Key = codes "Sec-WebSocket-Key is missing, there twice, or not the base64 of 16 bytes"
words_of NoPlace = codes "there is no place for a further connection"
words_of Left = codes "the peer left before its handshake was done"
