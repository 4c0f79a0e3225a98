-- How many bytes values and messages have at most, and that the frames of a load make a capture.
use Rattle.std.proofs.Common.{◌≡◌, ℕ, zero, suc, ◌+◌, ◌*◌, ◌%◌, ◌/◌, ◌^◌, ◌<◌, ◌≤◌, ◌==◌, ◌&&◌, nat_lt, nat_le, Bool, true, false, ℤ, pos, List, [], ◌∷◌, ◌++◌, length, length-append, refl, ap, arith, if◌then◌else◌, FitsSigned, w64, rules}
use Rattle.std.proofs.lemmas.Bool.Decides.{nat_tests}
use Rattle.uuid.specs.Text.{by_index}
use Rattle.etp_values.specs.IdText.{id_text}
use Rattle.avro_bin.specs.Number.{plain_number, shortest, unsigned}
use Rattle.avro_bin.specs.Plain.{plain, plain_all, plain_named, plain_blob, plain_block}
use Rattle.avro_bin.specs.Value.{Value, Values, VNull, VBoolean, VInt, VLong, VFloat, VDouble, VBytes, VText, VFixed, VEnum, VArray, VMap, VUnion, VFields, Entries, none, more, none_named, more_named, list, pairs}
use Rattle.etp_capture.specs.Frames.{frame_bytes, frame_limit, magic, IsFrame, IsInRange}
use Rattle.etp_capture.specs.Capture.{frames_bytes, AreFrames}
use Rattle.etp_capture.specs.declared.frame.Frame.{Frame}
use Rattle.etp_frame.specs.Header.{header_form}
use Rattle.etp_frame.specs.Message.{message_body}
use Rattle.etp_frame.specs.Wire.{message_bytes}
use Rattle.etp_frame.specs.declared.header.Header.{Header}
use Rattle.etp_frame.specs.declared.message.Message.{Message}
use Rattle.generator.specs.Generator.{frames, frames_from, later_message, message_at, message_frame, next_number, poll_frame, request_header}
use Rattle.load_forms.specs.Laws.{LoadsAreCaptures}

-- ---- numbers, and lists one after the other

both_few : (xs ys : List ℕ) (a b : ℕ) → length xs ≤ a → length ys ≤ b → length (xs ++ ys) ≤ a + b
both_few xs ys a b few others = let long = length-append xs ys in omega (arith, long, few, others)

one_more : (b : ℕ) (small : Bool) (bs : List ℕ) (k z : ℕ) → length bs ≤ suc k → length (if small then z ∷ [] else b ∷ bs) ≤ suc (suc k)
one_more b true bs k z few = omega arith
one_more b false bs k z few = omega (arith, few)

shortest_few : (k z : ℕ) → length (shortest k z) ≤ suc k
shortest_few zero z = omega arith
shortest_few (suc k) z = one_more (z % 128 + 128) (nat_lt z 128) (shortest k (z / 128)) k z (shortest_few k (z / 128))

number_few : (x : ℤ) → length (plain_number x) ≤ 10
unfolding plain_number
number_few x = shortest_few 9 (unsigned x)

blob_few : (b : List ℕ) → length (plain_blob b) ≤ 10 + length b
blob_few b = both_few (plain_number (pos (length b))) b 10 (length b) (number_few (pos (length b))) (omega arith)

block_few : (count : ℕ) (items : List ℕ) (n : ℕ) → length items ≤ n → length (plain_block count items) ≤ 20 + n
block_few zero items n few = let short = number_few (pos 0) in omega (arith, short)
block_few (suc count) items n few =
    let front = both_few (plain_number (pos (suc count))) items 10 n (number_few (pos (suc count))) few in
    let all = both_few (plain_number (pos (suc count)) ++ items) (plain_number (pos 0)) (10 + n) 10 front (number_few (pos 0)) in
    omega (arith, all)

-- ---- values

-- a value has at most this many bytes
abbrev mutual
  most : Value → ℕ
  most VNull = 0
  most (VBoolean b) = 1
  most (VInt x) = 10
  most (VLong x) = 10
  most (VFloat n) = 4
  most (VDouble n) = 8
  most (VBytes b) = 10 + length b
  most (VText b) = 10 + length b
  most (VFixed b) = length b
  most (VEnum p) = 10
  most (VArray vs) = 20 + most_all vs
  most (VMap es) = 20 + most_named es
  most (VUnion p v) = 10 + most v
  most (VFields vs) = most_all vs

  most_all : Values → ℕ
  most_all none = 0
  most_all (more v vs) = most v + most_all vs

  most_named : Entries → ℕ
  most_named none_named = 0
  most_named (more_named n v es) = 10 + length n + most v + most_named es

mutual
  few : (v : Value) → length (plain v) ≤ most v
  few VNull = omega arith
  few (VBoolean b) = omega arith
  few (VInt x) = number_few x
  few (VLong x) = number_few x
  few (VFloat n) = omega arith
  few (VDouble n) = omega arith
  few (VBytes b) = blob_few b
  few (VText b) = blob_few b
  few (VFixed b) = omega arith
  few (VEnum p) = number_few (pos p)
  few (VArray vs) = block_few (length (list vs)) (plain_all vs) (most_all vs) (few_all vs)
  few (VMap es) = block_few (length (pairs es)) (plain_named es) (most_named es) (few_named es)
  few (VUnion p v) = both_few (plain_number (pos p)) (plain v) 10 (most v) (number_few (pos p)) (few v)
  few (VFields vs) = few_all vs

  few_all : (vs : Values) → length (plain_all vs) ≤ most_all vs
  few_all none = omega arith
  few_all (more v vs) = both_few (plain v) (plain_all vs) (most v) (most_all vs) (few v) (few_all vs)

  few_named : (es : Entries) → length (plain_named es) ≤ most_named es
  few_named none_named = omega arith
  few_named (more_named n v es) =
      let front = both_few (plain_blob n) (plain v) (10 + length n) (most v) (blob_few n) (few v) in
      both_few (plain_blob n ++ plain v) (plain_named es) (10 + length n + most v) (most_named es) front (few_named es)

-- ---- messages

-- a body of at most 900 bytes
abbrev IsShort : Message → Type 0
IsShort m = nat_le (most (message_body m).value) 900 ≡ true

either_short : (b : Bool) (m n : Message) → IsShort m → IsShort n → IsShort (if b then m else n)
either_short true m n here there = here
either_short false m n here there = there

later_short : (x j : ℕ) → IsShort (later_message x j)
later_short x j = either_short ((x / 2 ^ 33) % 4 == 2) _ _ refl (either_short ((x / 2 ^ 33) % 4 == 3) _ _ refl refl)

-- a channel's URI has its identifier as 36 characters
message_short : (x j : ℕ) → IsShort (message_at x j)
unfolding id_text by_index
message_short x j = either_short (j / 8 == 0) _ _ refl (either_short (j / 8 == 1) _ _ refl (either_short (j / 8 == 2) _ _ refl (later_short x j)))

within : (n m : ℕ) → n ≤ m → nat_le m 900 ≡ true → n ≤ 900
within n m less short = grind (arith, nat_tests)

-- after a header, of at most 50 bytes
bytes_few : (h : Header) (m : Message) → IsShort m → length (message_bytes h m) ≤ 950
bytes_few h m short =
    let header : length (plain (header_form.as_value h)) ≤ 50 = few (header_form.as_value h) in
    let body : length (plain (message_body m).value) ≤ 900 = within _ _ (few (message_body m).value) short in
    both_few (plain (header_form.as_value h)) (plain (message_body m).value) 50 900 header body

-- ---- frames

payload_few : (x j : ℕ) → length (message_frame x j).bytes ≤ 950
unfolding message_frame
payload_few x j = bytes_few (request_header j (message_at x j)) (message_at x j) (message_short x j)

in_limit : (n : ℕ) → n ≤ 950 → nat_le n frame_limit ≡ true
in_limit n small = grind (arith, nat_tests)

message_is_frame : (x j : ℕ) → IsFrame (message_frame x j)
unfolding message_frame
message_is_frame x j = record {
  kind = refl;
  payload = ap (λ (b : Bool). b && true && true) (in_limit (length (message_frame x j).bytes) (payload_few x j));
}

poll_is_frame : (j : ℕ) → IsFrame (poll_frame j)
poll_is_frame j = record { kind = refl; payload = refl }

tag_small : (j : ℕ) → j % 8 < 2 ^ 32
tag_small j = omega arith

moment_fits : (j : ℕ) → j < 2 ^ 32 → FitsSigned w64 (pos j)
moment_fits j small = search rules

message_in_range : (x j : ℕ) → j < 2 ^ 32 → IsInRange (message_frame x j)
unfolding message_frame
message_in_range x j small = record { tag = tag_small j; moment = moment_fits j small }

poll_in_range : (j : ℕ) → j < 2 ^ 32 → IsInRange (poll_frame j)
poll_in_range j small = record { tag = tag_small j; moment = moment_fits j small }

first_small : (j k : ℕ) → j + suc k < 2 ^ 32 → j < 2 ^ 32
first_small j k small = omega (arith, small)

later_small : (j k : ℕ) → j + suc k < 2 ^ 32 → (j + 1) + k < 2 ^ 32
later_small j k small = omega (arith, small)

are_frames : (x j k : ℕ) → j + k < 2 ^ 32 → AreFrames (frames_from x j k)
are_frames x j zero small = tt
are_frames x j (suc k) small =
    let here = first_small j k small in
    let rest = are_frames (next_number x) (j + 1) k (later_small j k small) in
    (message_is_frame x j, message_in_range x j here, (poll_is_frame j, poll_in_range j here, rest))

frame_few : (f : Frame) (n : ℕ) → length f.bytes ≤ n → length (frame_bytes f) ≤ 17 + n
frame_few f n few = omega (arith, few)

-- a message and its poll have less than 1,000 bytes
all_few : (x j k : ℕ) → length (frames_bytes (frames_from x j k)) ≤ k * 1000
all_few x j zero = omega arith
all_few x j (suc k) =
    let rest = frames_bytes (frames_from (next_number x) (j + 1) k) in
    let poll = both_few (frame_bytes (poll_frame j)) rest 17 (k * 1000) (frame_few (poll_frame j) 0 (omega arith)) (all_few (next_number x) (j + 1) k) in
    let all = both_few (frame_bytes (message_frame x j)) (frame_bytes (poll_frame j) ++ rest) 967 (17 + k * 1000) (frame_few (message_frame x j) 950 (payload_few x j)) poll in
    omega (arith, all)

whole_few : (n size : ℕ) → n ≤ 8 + size * 1000 → size ≤ 1000000 → n ≤ 1073741824
whole_few n size few small = omega (arith, few, small)

size_small : (size : ℕ) → size ≤ 1000000 → 0 + size < 2 ^ 32
size_small size small = omega (arith, small)

pub load_is_capture : LoadsAreCaptures
load_is_capture size small = record {
  all = refl;
  small = whole_few (length (magic ++ frames_bytes (frames size))) size (both_few magic (frames_bytes (frames size)) 8 (size * 1000) (omega arith) (all_few size 0 size)) small;
  frames_are = are_frames size 0 size (size_small size small);
}
