-- The bytes of a frame, by its message and by how that is sealed.
use Rattle.std.specs.Prelude.{◌≡◌, ℕ, Bool, true, false, List}
use Rattle.afdx_frame.specs.declared.seals.Seal.{Seal}
use Rattle.afdx_frame.specs.declared.seals.Seal.TheVariants.{Right, Wrong, Missing}
use Rattle.afdx_frame.specs.Sealing.{is_sealed, sealed, sealed_wrongly}

-- the message and its check sequence, or the complement of that, or nothing behind it
unfoldable pub whole : Seal → List ℕ → List ℕ
whole Right message = sealed message
whole Wrong message = sealed_wrongly message
whole Missing message = message

-- how many bytes stand behind the message
abbrev pub seal_length : Seal → ℕ
seal_length Right = 4
seal_length Wrong = 4
seal_length Missing = 0

abbrev pub is_right : Seal → Bool
is_right Right = true
is_right Wrong = false
is_right Missing = false

-- all bytes are sealed if and only if the seal is right
abbrev pub IsSealedAs : Seal → List ℕ → Type 0
IsSealedAs seal message = is_sealed (whole seal message) ≡ is_right seal
