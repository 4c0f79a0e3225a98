use Rattle.etp_values.proofs.PrefixLemmas.{prefix_self, prefix_grown, prefix_trans, prefix_length, prefix_get, prefix_shorter}
use Rattle.etp_values.proofs.laws.prefix_laws.Goals as goal

pub returns : goal.returns
returns c = record {
  longer = λ xs y. (prefix_self xs, prefix_grown xs y);
  through = λ xs ys zs p q. (prefix_trans xs ys zs p q, prefix_length xs zs (prefix_trans xs ys zs p q), λ k x. prefix_get xs zs k x (prefix_trans xs ys zs p q));
  in_order = prefix_shorter;
}
