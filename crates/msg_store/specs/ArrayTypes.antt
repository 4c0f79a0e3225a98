-- The kinds of arrays, and what their elements mean, as symbols.
-- `schema/write` writes all below the imports from `schema/messages.txt`.
use Rattle.std.specs.Prelude.{◌≡◌, refl, ℕ, List, [], ◌∷◌, get_or}
use Rattle.etp_schema.specs.Form.{Form, symbols}
use Rattle.msg_store.specs.declared.array_types.AnyArrayType.{AnyArrayType}
use Rattle.msg_store.specs.declared.array_types.AnyLogicalArrayType.{AnyLogicalArrayType}
use Rattle.msg_store.specs.declared.array_types.AnyArrayType.TheVariants as t
use Rattle.msg_store.specs.declared.array_types.AnyLogicalArrayType.TheVariants as l

-- the kinds of array in order
abbrev pub array_types : List AnyArrayType
array_types = t.ArrayOfBoolean ∷ t.ArrayOfInt ∷ t.ArrayOfLong ∷ t.ArrayOfFloat ∷ t.ArrayOfDouble ∷ t.ArrayOfString ∷ t.Bytes ∷ []

abbrev pub array_type_place : AnyArrayType → ℕ
array_type_place t.ArrayOfBoolean = 0
array_type_place t.ArrayOfInt = 1
array_type_place t.ArrayOfLong = 2
array_type_place t.ArrayOfFloat = 3
array_type_place t.ArrayOfDouble = 4
array_type_place t.ArrayOfString = 5
array_type_place t.Bytes = 6

pub array_type_again : (x : AnyArrayType) → get_or array_types (array_type_place x) t.Bytes ≡ x
array_type_again t.ArrayOfBoolean = refl
array_type_again t.ArrayOfInt = refl
array_type_again t.ArrayOfLong = refl
array_type_again t.ArrayOfFloat = refl
array_type_again t.ArrayOfDouble = refl
array_type_again t.ArrayOfString = refl
array_type_again t.Bytes = refl

abbrev pub any_array_type_form : Form AnyArrayType
any_array_type_form = symbols array_types t.Bytes array_type_place array_type_again refl refl

-- the meanings in order
abbrev pub logical_types : List AnyLogicalArrayType
logical_types = l.ArrayOfBoolean ∷ l.ArrayOfInt8 ∷ l.ArrayOfUInt8 ∷ l.ArrayOfInt16LE ∷ l.ArrayOfInt32LE ∷ l.ArrayOfInt64LE ∷ l.ArrayOfUInt16LE ∷ l.ArrayOfUInt32LE ∷ l.ArrayOfUInt64LE ∷ l.ArrayOfFloat32LE ∷ l.ArrayOfDouble64LE ∷ l.ArrayOfInt16BE ∷ l.ArrayOfInt32BE ∷ l.ArrayOfInt64BE ∷ l.ArrayOfUInt16BE ∷ l.ArrayOfUInt32BE ∷ l.ArrayOfUInt64BE ∷ l.ArrayOfFloat32BE ∷ l.ArrayOfDouble64BE ∷ l.ArrayOfString ∷ l.ArrayOfCustom ∷ []

abbrev pub logical_type_place : AnyLogicalArrayType → ℕ
logical_type_place l.ArrayOfBoolean = 0
logical_type_place l.ArrayOfInt8 = 1
logical_type_place l.ArrayOfUInt8 = 2
logical_type_place l.ArrayOfInt16LE = 3
logical_type_place l.ArrayOfInt32LE = 4
logical_type_place l.ArrayOfInt64LE = 5
logical_type_place l.ArrayOfUInt16LE = 6
logical_type_place l.ArrayOfUInt32LE = 7
logical_type_place l.ArrayOfUInt64LE = 8
logical_type_place l.ArrayOfFloat32LE = 9
logical_type_place l.ArrayOfDouble64LE = 10
logical_type_place l.ArrayOfInt16BE = 11
logical_type_place l.ArrayOfInt32BE = 12
logical_type_place l.ArrayOfInt64BE = 13
logical_type_place l.ArrayOfUInt16BE = 14
logical_type_place l.ArrayOfUInt32BE = 15
logical_type_place l.ArrayOfUInt64BE = 16
logical_type_place l.ArrayOfFloat32BE = 17
logical_type_place l.ArrayOfDouble64BE = 18
logical_type_place l.ArrayOfString = 19
logical_type_place l.ArrayOfCustom = 20

pub logical_type_again : (x : AnyLogicalArrayType) → get_or logical_types (logical_type_place x) l.ArrayOfCustom ≡ x
logical_type_again l.ArrayOfBoolean = refl
logical_type_again l.ArrayOfInt8 = refl
logical_type_again l.ArrayOfUInt8 = refl
logical_type_again l.ArrayOfInt16LE = refl
logical_type_again l.ArrayOfInt32LE = refl
logical_type_again l.ArrayOfInt64LE = refl
logical_type_again l.ArrayOfUInt16LE = refl
logical_type_again l.ArrayOfUInt32LE = refl
logical_type_again l.ArrayOfUInt64LE = refl
logical_type_again l.ArrayOfFloat32LE = refl
logical_type_again l.ArrayOfDouble64LE = refl
logical_type_again l.ArrayOfInt16BE = refl
logical_type_again l.ArrayOfInt32BE = refl
logical_type_again l.ArrayOfInt64BE = refl
logical_type_again l.ArrayOfUInt16BE = refl
logical_type_again l.ArrayOfUInt32BE = refl
logical_type_again l.ArrayOfUInt64BE = refl
logical_type_again l.ArrayOfFloat32BE = refl
logical_type_again l.ArrayOfDouble64BE = refl
logical_type_again l.ArrayOfString = refl
logical_type_again l.ArrayOfCustom = refl

abbrev pub any_logical_array_type_form : Form AnyLogicalArrayType
any_logical_array_type_form = symbols logical_types l.ArrayOfCustom logical_type_place logical_type_again refl refl
