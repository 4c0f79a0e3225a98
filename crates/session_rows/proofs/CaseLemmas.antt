-- A session is opened if it has a protocol and a format.
use Rattle.std.specs.Prelude.{ℕ, ℤ, ◌≡◌, ◌≢◌, List, [], ◌∷◌, length, refl}
use Rattle.server_config.specs.declared.config.Config.{Config}
use Rattle.session_rows.specs.Opening.{opening_with, open_session}
use Rattle.session_rows.specs.declared.formats.Format.{Format}
use Rattle.session_rows.specs.declared.opening.Opening.TheVariants.{Opened}

pub opened : (config : Config) (number : ℕ) (moment : ℤ) (limit : ℕ) (accepted : List ℤ) (formats : List Format) → length accepted ≢ 0 → length formats ≢ 0 → opening_with config number moment limit accepted formats ≡ Opened accepted formats limit (open_session config number moment accepted formats)
opened config number moment limit [] formats p f = absurd (p refl)
opened config number moment limit (x ∷ xs) [] p f = absurd (f refl)
opened config number moment limit (x ∷ xs) (y ∷ ys) p f = refl
