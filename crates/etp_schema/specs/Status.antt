-- Whether something is active, as a symbol.
-- `schema/write` writes all below the imports from `schema/messages.txt`.
use Rattle.std.specs.Prelude.{◌≡◌, refl, ℕ, List, [], ◌∷◌, get_or}
use Rattle.etp_schema.specs.Form.{Form, symbols}
use Rattle.etp_schema.specs.declared.status.ActiveStatusKind.{ActiveStatusKind}
use Rattle.etp_schema.specs.declared.status.ActiveStatusKind.TheVariants.{Active, Inactive}

-- in order
abbrev pub statuses : List ActiveStatusKind
statuses = Active ∷ Inactive ∷ []

abbrev pub status_place : ActiveStatusKind → ℕ
status_place Active = 0
status_place Inactive = 1

pub status_again : (x : ActiveStatusKind) → get_or statuses (status_place x) Inactive ≡ x
status_again Active = refl
status_again Inactive = refl

abbrev pub active_status_kind_form : Form ActiveStatusKind
active_status_kind_form = symbols statuses Inactive status_place status_again refl refl
