-- More bytes behind those that a passage was told.
use Rattle.std.proofs.Common.{◌≡◌, ℕ, ◌+◌, ◌≤◌, List, [], ◌∷◌, ◌++◌, Option, Some, None, length, drop, ap, subst, ◌∙◌, arith}
use Rattle.std.specs.List.{AllByRecursion}
use Rattle.std.proofs.lemmas.List.{length-append, append_assoc, drop-append-le}
use Rattle.avro_bin.specs.declared.schema.Node.{Node}
use Rattle.avro_bin.specs.Laws.{IsBytes}
use Rattle.avro_pieces.specs.declared.level.Block.{Block}
use Rattle.avro_pieces.specs.declared.level.Level.{Level}
use Rattle.avro_pieces.specs.declared.level.Level.TheVariants as l
use Rattle.avro_pieces.specs.declared.passage.Passage.{Passage}
use Rattle.avro_pieces.specs.Levels.{Begins, IsLevel}
use Rattle.avro_pieces.specs.Passage.{StandsAt, StandsLonger}

begins_longer : (all more : ℕ) (block : Option Block) → Begins all block → Begins (all + more) block
begins_longer all more None h = tt
begins_longer all more (Some b) h = omega (arith, h)

level_longer : (nodes : List Node) (all more : ℕ) (level : Level) → IsLevel nodes all level → IsLevel nodes (all + more) level
level_longer nodes all more (l.Node id) h = h
level_longer nodes all more (l.Fields f) h = h
level_longer nodes all more (l.Items child left block) h = (h.0, begins_longer all more block h.1)
level_longer nodes all more (l.Entries e) h = (h.0, begins_longer all more e.block h.1)

levels_longer : (nodes : List Node) (all more : ℕ) (levels : List Level) → AllByRecursion (IsLevel nodes all) levels → AllByRecursion (IsLevel nodes (all + more)) levels
levels_longer nodes all more [] h = tt
levels_longer nodes all more (x ∷ xs) h = (level_longer nodes all more x h.0, levels_longer nodes all more xs h.1)

pub stands_longer_is : StandsLonger
stands_longer_is nodes bytes more p s = record {
  id = s.id;
  within = omega (arith, s.within, length-append bytes more);
  there = rw (length-append bytes more) (levels_longer nodes (length bytes) (length more) p.levels.items s.there);
  continues = λ later fits.
      let joined : (bytes ++ more) ++ later ≡ bytes ++ (more ++ later) = append_assoc bytes more later in
      let rest : drop p.at (bytes ++ more) ++ later ≡ drop p.at bytes ++ (more ++ later) = ap (λ (r : List ℕ). r ++ later) (drop-append-le p.at bytes more s.within) ∙ append_assoc (drop p.at bytes) more later in
      let all : length (bytes ++ more) + length later ≡ length bytes + length (more ++ later) = omega (arith, length-append bytes more, length-append more later) in
      rw (joined, rest, all) (s.continues (more ++ later) (subst IsBytes joined fits));
}
