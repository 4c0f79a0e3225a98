-- What a message that is not sent yet holds, and what it takes.
use Rattle.std.proofs.Common.{◌≡◌, ◌+◌, ◌<◌, ◌&&◌, ◌||◌, ℕ, ℤ, suc, Bool, false, nat_lt, nat_le, List, [], ◌∷◌, ◌++◌, length, refl, ap, sym, ◌∙◌, arith}
use Rattle.std.proofs.lemmas.Bool.Decides.{nat_tests}
use Rattle.std.proofs.lemmas.List.{length-append, map-append}
use Rattle.std.proofs.lemmas.Bool.{lt-ltb}
use Rattle.channel_points.specs.Bytes.{point_bytes}
use Rattle.etp_values.specs.Weight.{capped, weigh}
use Rattle.etp_values.proofs.WeightLemmas.{capped-sum}
use Rattle.etp_values.specs.declared.point.ChannelPoint.{ChannelPoint}
use Rattle.etp_values.specs.declared.point.Point.{Point}
use Rattle.client_forms.specs.Filling.{takes}
use Rattle.client_forms.specs.Loading.{fits, is_none, of_channel}

weigh_push : (ps : List Point) (p : Point) → weigh point_bytes (ps ++ p ∷ []) ≡ weigh point_bytes ps + point_bytes p
weigh_push [] p = omega arith
weigh_push (q ∷ qs) p = let rest = weigh_push qs p in omega (arith, rest)

-- the bytes with one more point
pub bytes_more : (held : List Point) (p : Point) (bytes more : ℕ) → bytes ≡ capped (weigh point_bytes held) → more ≡ capped (point_bytes p) → capped (bytes + more) ≡ capped (weigh point_bytes (held ++ p ∷ []))
bytes_more held p bytes more b m = (λ j. capped (b j + m j)) ∙ capped-sum (weigh point_bytes held) (point_bytes p) ∙ ap capped (sym (weigh_push held p))

pub points_more : (channel : ℤ) (held : List Point) (p : Point) (items : List ChannelPoint) → items ≡ of_channel channel held → items ++ (record { channel = channel; point = p }) ∷ [] ≡ of_channel channel (held ++ p ∷ [])
points_more channel held p items is = ap (λ l. l ++ (record { channel = channel; point = p }) ∷ []) is ∙ sym (map-append (λ (q : Point). record { channel = channel; point = q }) held (p ∷ []))

channel_length : (channel : ℤ) (held : List Point) → length (of_channel channel held) ≡ length held
channel_length channel [] = refl
channel_length channel (p ∷ ps) = ap suc (channel_length channel ps)

pub as_many : (channel : ℤ) (held : List Point) (items : List ChannelPoint) → items ≡ of_channel channel held → length items ≡ length held
as_many channel held items is = ap length is ∙ channel_length channel held

capped_within : (n : ℕ) → nat_le (capped n) 8388608 ≡ nat_le n 8388608
capped_within n = grind (arith, nat_tests)

room_for : (n m : ℕ) → m ≡ n + 1 → nat_lt n 1000 ≡ nat_le m 1000
room_for n m is = grind (arith, nat_tests, is)

-- there is room for one more
pub room_held : (held : List Point) (p : Point) (n sum : ℕ) → n ≡ length held → sum ≡ capped (weigh point_bytes (held ++ p ∷ [])) → (nat_lt n 1000 && nat_le sum 8388608) ≡ fits (held ++ p ∷ [])
room_held held p n sum is total =
    let many : length (held ++ p ∷ []) ≡ n + 1 = length-append held (p ∷ []) ∙ ap (λ k. k + 1) (sym is) in
    (λ j. room_for n (length (held ++ p ∷ [])) many j && (ap (λ k. nat_le k 8388608) total ∙ capped_within (weigh point_bytes (held ++ p ∷ []))) j)

some_held : (held : List Point) (n : ℕ) → n ≡ length held → (n ≡ 0 → ⊥) → is_none held ≡ false
some_held [] n is some = absurd (some is)
some_held (p ∷ ps) n is some = refl

pub takes_within : (held : List Point) (p : Point) (n sum : ℕ) → n ≡ length held → (n ≡ 0 → ⊥) → n < 1000 → sum ≡ capped (weigh point_bytes (held ++ p ∷ [])) → nat_le sum 8388608 ≡ takes held p
takes_within held p n sum is some few total =
    ap (λ (b : Bool). b && nat_le sum 8388608) (sym (lt-ltb n 1000 few)) ∙ room_held held p n sum is total ∙ ap (λ (b : Bool). b || fits (held ++ p ∷ [])) (sym (some_held held n is some))
