-- The points of a channel in chunks.
use Rattle.std.proofs.Common.{refl, ℕ, suc, ◌≡◌, ◌<◌, ◌≤◌, ◌+◌, ◌-◌, List, [], ◌∷◌, ◌++◌, length, ap, sym, ◌∙◌, arith, subst, append-nil, append_assoc, length-append, Option, Some, None}
use Rattle.std.specs.Prelude.{slice_get}
use Rattle.std.specs.List.{AllByRecursion}
use Rattle.etp_values.specs.declared.point.Point.{Point}
use Rattle.etp_values.proofs.EachLemmas.{all-push}
use Rattle.channel_points.specs.Blocks.{joined}
use Rattle.channel_points.specs.Chunks.{AreChunks, AreCounted, Held, IsChunk, IsFresh, Stands, all_added, last_size, none_added, with_added, with_tail}
use Rattle.channel_points.proofs.BlockLemmas.{joined-append, joined-push}

-- ---- lists of chunks

pub chunked-push : (cs : List (List Point)) (c : List Point) → AreChunks cs → IsChunk c → 1024 < last_size cs + length c → AreChunks (cs ++ c ∷ [])
chunked-push [] c h chunk follows = chunk
chunked-push (b ∷ []) c h chunk follows = (h, follows, chunk)
chunked-push (b ∷ d ∷ ds) c h chunk follows = (h.0, h.1, chunked-push (d ∷ ds) c h.2 chunk follows)

pub last_size-push : (cs : List (List Point)) (c : List Point) → last_size (cs ++ c ∷ []) ≡ length c
last_size-push [] c = refl
last_size-push (b ∷ []) c = refl
last_size-push (b ∷ d ∷ ds) c = last_size-push (d ∷ ds) c

pub last-some : (cs : List (List Point)) → AreChunks cs → 0 < last_size cs
last-some [] h = omega arith
last-some (c ∷ []) h = h.some
last-some (c ∷ d ∷ ds) h = last-some (d ∷ ds) h.2

-- a last chunk and those before it
pub record IsLast (cs : List (List Point)) (c : List Point) : Type 0 where
  pub chunks : AreChunks cs
  pub chunk : IsChunk c
  pub follows : 1024 < last_size cs + length c

pub chunked-last : (cs : List (List Point)) (c : List Point) → AreChunks (cs ++ c ∷ []) → IsLast cs c
chunked-last [] c h = record { chunks = tt; chunk = h; follows = let some : 0 < length c = h.some in omega arith }
chunked-last (b ∷ []) c h = record { chunks = h.0; chunk = h.2; follows = h.1 }
chunked-last (b ∷ d ∷ ds) c h =
    let rest = chunked-last (d ∷ ds) c h.2 in
    record { chunks = (h.0, h.1, rest.chunks); chunk = rest.chunk; follows = rest.follows }

-- full chunks after chunks
pub chunked-full : (cs fs : List (List Point)) → AreChunks cs → AllByRecursion (λ f. length f ≡ 1024) fs → AreChunks (cs ++ fs)
chunked-full cs [] h full = subst AreChunks (sym (append-nil cs)) h
chunked-full cs (f ∷ fs) h full =
    let size : length f ≡ 1024 = full.0 in
    let some : 0 < last_size cs = last-some cs h in
    subst AreChunks (append_assoc cs (f ∷ []) fs) (chunked-full (cs ++ f ∷ []) fs (chunked-push cs f h (record { some = omega arith; few = omega arith }) (omega arith)) full.1)

last-full : (cs : List (List Point)) (f : List Point) (fs : List (List Point)) → AllByRecursion (λ f. length f ≡ 1024) (f ∷ fs) → last_size (cs ++ f ∷ fs) ≡ 1024
last-full cs f [] full = last_size-push cs f ∙ full.0
last-full cs f (g ∷ gs) full = ap last_size (sym (append_assoc cs (f ∷ []) (g ∷ gs))) ∙ last-full (cs ++ f ∷ []) g gs full.1

-- ---- the points of chunks

pub joined-concat : {X : Type 0} (cs ds : List (List X)) (u : List X) → joined (cs ++ ds) u ≡ joined cs (joined ds u)
joined-concat [] ds u = refl
joined-concat (c ∷ cs) ds u = ap (λ l. c ++ l) (joined-concat cs ds u)

pub joined-tail : {X : Type 0} (cs : List (List X)) (t : List X) → joined cs t ≡ joined cs [] ++ t
joined-tail [] t = refl
joined-tail (c ∷ cs) t = ap (λ l. c ++ l) (joined-tail cs t) ∙ sym (append_assoc c (joined cs []) t)

joined-with_tail : (cs : List (List Point)) (t u : List Point) → joined (with_tail cs t) u ≡ joined cs (t ++ u)
joined-with_tail cs [] u = refl
joined-with_tail cs (x ∷ xs) u = joined-push cs (x ∷ xs) u

-- ---- the open chunk is sealed

chunked-tail : (cs : List (List Point)) (t : List Point) → Stands cs t → AreChunks (with_tail cs t)
chunked-tail cs [] stands = stands.chunks
chunked-tail cs (x ∷ xs) stands = chunked-push cs (x ∷ xs) stands.chunks (record { some = omega arith; few = stands.few }) (stands.follows (omega arith))

-- ---- points that are about to be added

pub fresh-start : (fs : List (List Point)) (m n : List Point) → AllByRecursion (λ f. length f ≡ 1024) fs → length m ≡ 1024 → length n ≡ 1 → IsFresh (fs ++ m ∷ []) n
fresh-start fs m n full size one = record {
  full = all-push (λ f. length f ≡ 1024) fs m full size;
  few = omega arith;
  empty = λ h. absurd (omega arith);
}

pub fresh-add : (fs : List (List Point)) (m n : List Point) → IsFresh fs m → length m < 1024 → length n ≡ length m + 1 → IsFresh fs n
fresh-add fs m n fresh less one = record {
  full = fresh.full;
  few = omega arith;
  empty = λ h. absurd (omega arith);
}

pub started-points : (fs : List (List Point)) (m : List Point) (p : Point) → joined (fs ++ m ∷ []) (p ∷ []) ≡ joined fs m ++ p ∷ []
started-points fs m p = joined-push fs m (p ∷ []) ∙ joined-append fs m (p ∷ [])

-- ---- what was about to be added is

pub stands-join : (cs : List (List Point)) (t m : List Point) → Stands cs t → 0 < length m → length t + length m ≤ 1024 → Stands cs (t ++ m)
stands-join cs t m stands some few =
    let size : length (t ++ m) ≡ length t + length m = length-append t m in
    record {
      chunks = stands.chunks;
      few = omega arith;
      follows = λ h. by t stands.empty stands.follows size;
      empty = λ h. absurd (omega arith);
    }
  where
    by : (t : List Point) → (length t ≡ 0 → cs ≡ []) → (0 < length t → 1024 < last_size cs + length t) → length (t ++ m) ≡ length t + length m → 1024 < last_size cs + length (t ++ m)
    by [] empty follows size =
        let none : last_size cs ≡ 1024 = ap last_size (empty refl) in
        omega arith
    by (x ∷ xs) empty follows size =
        let old : 1024 < last_size cs + length (x ∷ xs) = follows (omega arith) in
        omega arith

follows-attach : (cs fs : List (List Point)) (t m : List Point) → Stands cs t → AllByRecursion (λ f. length f ≡ 1024) fs → 0 < length m → (fs ≡ [] → 1024 < length t + length m) → length m ≤ 1024 → 1024 < last_size (with_tail cs t ++ fs) + length m
follows-attach cs [] [] m stands full some many few = let all : 1024 < 0 + length m = many refl in absurd (omega arith)
follows-attach cs [] (x ∷ xs) m stands full some many few =
    let all : 1024 < length (x ∷ xs) + length m = many refl in
    let size : last_size ((cs ++ (x ∷ xs) ∷ []) ++ []) ≡ length (x ∷ xs) = ap last_size (append-nil (cs ++ (x ∷ xs) ∷ [])) ∙ last_size-push cs (x ∷ xs) in
    omega arith
follows-attach cs (f ∷ fs) t m stands full some many few =
    let size : last_size (with_tail cs t ++ f ∷ fs) ≡ 1024 = last-full (with_tail cs t) f fs full in
    omega arith

pub stands-attach : (cs fs : List (List Point)) (t m : List Point) → Stands cs t → IsFresh fs m → 0 < length m → (fs ≡ [] → 1024 < length t + length m) → Stands (with_tail cs t ++ fs) m
stands-attach cs fs t m stands fresh some many = record {
  chunks = chunked-full (with_tail cs t) fs (chunked-tail cs t stands) fresh.full;
  few = fresh.few;
  follows = λ h. follows-attach cs fs t m stands fresh.full some many fresh.few;
  empty = λ h. absurd (omega arith);
}

pub attached-points : (cs fs : List (List Point)) (t m : List Point) → joined (with_tail cs t ++ fs) m ≡ joined cs t ++ joined fs m
attached-points cs fs t m = joined-concat (with_tail cs t) fs m ∙ joined-with_tail cs t (joined fs m) ∙ joined-append cs t (joined fs m)

-- ---- points that are counted

pub counted-push : (h k : Held) (p : Point) (count added n : ℕ) → AreCounted h count added → k ≡ with_added p h → count + added < 18446744073709551615 → n ≡ added + 1 → AreCounted k count n
counted-push h k p count added n counted e below f =
    let points : length k.points ≡ length h.points = ap (λ x. length x.points) e in
    let all : length k.added ≡ length h.added + 1 = ap (λ x. length x.added) e ∙ length-append h.added (p ∷ []) in
    let old_points : count ≡ length h.points = counted.shown in
    let old_added : added ≡ length h.added = counted.coming in
    record { shown = omega arith; coming = omega arith; bounded = omega arith }

-- ---- chunks that are put together

pub merged-chunks : (cs : List (List Point)) (c b : List Point) → AreChunks (cs ++ c ∷ []) → last_size (cs ++ c ∷ []) + length b ≤ 1024 → AreChunks (cs ++ (c ++ b) ∷ [])
merged-chunks cs c b h few =
    let last = chunked-last cs c h in
    let some : 0 < length c = last.chunk.some in
    let follows : 1024 < last_size cs + length c = last.follows in
    let size : last_size (cs ++ c ∷ []) ≡ length c = last_size-push cs c in
    let both : length (c ++ b) ≡ length c + length b = length-append c b in
    chunked-push cs (c ++ b) last.chunks (record { some = omega arith; few = omega arith }) (omega arith)

pub pushed-points : (cs : List (List Point)) (b : List Point) → joined (cs ++ b ∷ []) [] ≡ joined cs [] ++ b
pushed-points cs b = joined-push cs b [] ∙ ap (joined cs) (append-nil b) ∙ joined-tail cs b

pub merged-points : (cs : List (List Point)) (c b : List Point) → joined (cs ++ (c ++ b) ∷ []) [] ≡ joined (cs ++ c ∷ []) [] ++ b
merged-points cs c b = pushed-points cs (c ++ b) ∙ sym (append_assoc (joined cs []) c b) ∙ ap (λ l. l ++ b) (sym (pushed-points cs c))

pub pushed-chunks : (cs : List (List Point)) (b : List Point) → AreChunks cs → 0 < length b → length b ≤ 1024 → 1024 < last_size cs + length b → AreChunks (cs ++ b ∷ [])
pushed-chunks cs b h some few follows = chunked-push cs b h (record { some = some; few = few }) follows

abbrev pub size_in : Option (List Point) → ℕ
size_in None = 1024
size_in (Some c) = length c

pub last_size-get : (cs : List (List Point)) → last_size cs ≡ size_in (slice_get cs (length cs - 1))
last_size-get [] = refl
last_size-get (c ∷ []) = refl
last_size-get (c ∷ d ∷ ds) =
    let e : length (c ∷ d ∷ ds) - 1 ≡ suc (length (d ∷ ds) - 1) = omega arith in
    last_size-get (d ∷ ds) ∙ sym (ap (λ n. size_in (slice_get (c ∷ d ∷ ds) n)) e)

-- the last chunk is opened
pub stands-last : (cs ds : List (List Point)) (c t : List Point) → AreChunks cs → cs ≡ ds ++ c ∷ [] → t ≡ c → Stands ds t
stands-last cs ds c t h e f =
    let last = chunked-last ds c (subst AreChunks e h) in
    let some : 0 < length c = last.chunk.some in
    let size : length t ≡ length c = ap length f in
    record {
      chunks = last.chunks;
      few = subst (λ l. length l ≤ 1024) (sym f) last.chunk.few;
      follows = λ k. subst (λ l. 1024 < last_size ds + length l) (sym f) last.follows;
      empty = λ k. absurd (omega arith);
    }

pub points-last : (cs ds : List (List Point)) (c t : List Point) → cs ≡ ds ++ c ∷ [] → t ≡ c → joined ds t ≡ joined cs []
points-last cs ds c t e f = ap (joined ds) f ∙ joined-tail ds c ∙ sym (pushed-points ds c) ∙ ap (λ l. joined l []) (sym e)

pub small-chunks : (cs : List (List Point)) → AreChunks cs → AllByRecursion (λ c. length c ≤ 1024) cs
small-chunks [] h = tt
small-chunks (c ∷ []) h = (h.few, tt)
small-chunks (c ∷ d ∷ ds) h = (h.0.few, small-chunks (d ∷ ds) h.2)
