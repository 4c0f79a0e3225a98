use Rattle.std.proofs.Common.{None, cond, sym, ap}
use Rattle.std.specs.Map.{lookup}
use Rattle.std.specs.Str.{bytes_eq}
use Rattle.etp_values.specs.SameUri.{same_uri}
use Rattle.object_store.proofs.tables.drop_going.Goals as goal

pub returns-then-is_empty-clause-spaces : goal.returns-then-is_empty-clause-spaces
returns-then-is_empty-clause-spaces c = λ q. ap (λ b. cond b None (lookup (bytes_eq q) c.args.spaces.now.entries)) (sym (c.is_empty.ensures c.if-is_empty.true q))

pub returns-then-is_empty-clause-objects : goal.returns-then-is_empty-clause-objects
returns-then-is_empty-clause-objects c = λ q. ap (λ b. cond b None (lookup (same_uri q) c.args.objects.now.entries)) (sym (c.is_empty.ensures c.if-is_empty.true q.space))
