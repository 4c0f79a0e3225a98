use Rattle.std.specs.Prelude.{◌≡◌, cond, Some}
use Rattle.std.specs.Map.{lookup}
use Rattle.std.proofs.Common.{rules}
use Rattle.etp_values.specs.SameUri.{same_uri, same_uri-equiv, same_uri-is}
use Rattle.etp_values.proofs.LookupLemmas.{found_put}
use Rattle.object_store.specs.Changes.{object_made}
use Rattle.object_store.proofs.tables.put_object.Goals as goal

pub returns-clause-each : goal.returns-clause-each
returns-clause-each c = λ q.
    let put : lookup (same_uri q) c.insert.new.self.entries ≡ cond (same_uri c.args.uri q) (Some (object_made (lookup (same_uri c.args.uri) c.args.objects.now.entries) c.args.object)) (lookup (same_uri q) c.args.objects.now.entries) = search rules in
    found_put same_uri same_uri-equiv same_uri-is (λ before. object_made before c.args.object) c.args.uri q (λ k. lookup (same_uri k) c.args.objects.now.entries) _ put
