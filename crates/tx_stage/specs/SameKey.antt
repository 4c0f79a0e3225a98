-- That keys which are the same are equal, and the laws that a table with such keys asks for; for the crates above too.
use Rattle.std.specs.Prelude.{true, ◌≡◌, refl}
use Rattle.std.specs.Cmp.{IsEquivalence}
use Rattle.std.specs.Cmp.Lexicographic.{nat_list_eq_equiv}
use Rattle.std.proofs.Common.{ap}
use Rattle.std.proofs.lemmas.Bool.{false≢true}
use Rattle.std.proofs.lemmas.Slice.Eq.{bytes_eq-Decides}
use Rattle.etp_values.specs.SameUri.{same_uri-equiv, same_uri-is}
use Rattle.array_store.proofs.KeyLemmas.{same_key-equiv as same_array-equiv, same_key-is as same_array-is}
use Rattle.tx_stage.specs.declared.key.Key.{Key}
use Rattle.tx_stage.specs.declared.key.Key.TheVariants.{Space, Object, Array}
use Rattle.tx_stage.specs.Keys.{same_key}

-- what is the same is equal
pub same_key-is : (x y : Key) → same_key x y ≡ true → x ≡ y
same_key-is (Space p) (Space q) h = ap Space ((bytes_eq-Decides p q).0 h)
same_key-is (Space p) (Object v) h = absurd (false≢true h)
same_key-is (Space p) (Array l) h = absurd (false≢true h)
same_key-is (Object u) (Space q) h = absurd (false≢true h)
same_key-is (Object u) (Object v) h = ap Object (same_uri-is u v h)
same_key-is (Object u) (Array l) h = absurd (false≢true h)
same_key-is (Array k) (Space q) h = absurd (false≢true h)
same_key-is (Array k) (Object v) h = absurd (false≢true h)
same_key-is (Array k) (Array l) h = ap Array (same_array-is k l h)

itself : (x : Key) → same_key x x ≡ true
itself (Space p) = nat_list_eq_equiv.refl p
itself (Object u) = same_uri-equiv.refl u
itself (Array k) = same_array-equiv.refl k

turned : (x y : Key) → same_key x y ≡ same_key y x
turned (Space p) (Space q) = nat_list_eq_equiv.symm p q
turned (Space p) (Object v) = refl
turned (Space p) (Array l) = refl
turned (Object u) (Space q) = refl
turned (Object u) (Object v) = same_uri-equiv.symm u v
turned (Object u) (Array l) = refl
turned (Array k) (Space q) = refl
turned (Array k) (Object v) = refl
turned (Array k) (Array l) = same_array-equiv.symm k l

-- it is an equivalence
pub same_key-equiv : IsEquivalence same_key
same_key-equiv = record { refl = itself; symm = turned; congr = λ x y z h. ap (λ k. same_key k z) (same_key-is x y h) }
