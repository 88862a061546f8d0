-- What a frame of a link is, by its message and its seal.
use Rattle.std.proofs.Common.{◌≡◌, ℕ, ◌+◌, ◌*◌, ◌/◌, ◌%◌, ◌≤◌, true, List, get_or, length, refl, sym, ap}
use Rattle.std.proofs.Common.{◌∙◌, subst, arith}
use Rattle.afdx_frame.specs.Layout.{IsTo}
use Rattle.afdx_frame.specs.Parts.{IsLinkFrame, IsFrameOf}
use Rattle.afdx_frame.specs.Sealing.{AreBytes, is_sealed, sealed, sequence_of}
use Rattle.afdx_frame.specs.Seals.{IsSealedAs, is_right, whole}
use Rattle.afdx_frame.specs.declared.seals.Seal.{Seal}
use Rattle.afdx_frame.specs.declared.seals.Seal.TheVariants.{Right, Wrong, Missing}
use Rattle.afdx_frame.proofs.SealingLemmas.{is_sealed-decides}
use Rattle.afdx_frame.proofs.SealsLemmas.{AreBytes-whole, length-sealed, to-shorter, whole-right}
use Rattle.afdx_frame.proofs.SoundLemmas.{frame_is_sealed, frame_is_to}

right : (seal : Seal) → is_right seal ≡ true → seal ≡ Right
right Right e = refl
right Wrong e = absurd cc
right Missing e = absurd cc

-- it is sealed right: its bytes are its message, sealed
pub known-sealed : (seal : Seal) (message : List ℕ) → IsSealedAs seal message → AreBytes message
    → IsLinkFrame (whole seal message) → whole seal message ≡ sealed message
known-sealed seal message known h is =
    let f = is.1 in
    let yes : is_sealed (whole seal message) ≡ true =
    (is_sealed-decides (whole seal message) (AreBytes-whole seal message h)).1
    (frame_is_sealed (whole seal message) is.0.body is.0.link.0 is.0.kind is.0.number f) in
    ap (λ (s : Seal). whole s message) (right seal (sym known ∙ yes)) ∙ whole-right message

-- the link of a message of this link stands at its place
pub link-at : (message : List ℕ) (vl n : ℕ) → IsTo message vl
    → n ≡ get_or message 4 0 * 256 + get_or message 5 0 → n ≡ vl
link-at message vl n to is =
    is ∙ ap (λ (l : List ℕ). get_or l 4 0 * 256 + get_or l 5 0) to.parts ∙ number
  where
    number : vl / 256 % 256 * 256 + vl % 256 ≡ vl
    number = omega (arith, to.fits)

-- and of a frame of a link
module _ (message : List ℕ) (is : IsLinkFrame (sealed message)) where
  pub known-least : 60 ≤ length message
  known-least = let least = is.1.least in omega (arith, least, length-sealed message)

  pub known-most : length message ≤ 1514
  known-most = let most = is.1.most in omega (arith, most, length-sealed message)

  pub known-link : (n : ℕ) → n ≡ get_or message 4 0 * 256 + get_or message 5 0 → IsTo message n
  known-link n at =
      let to = to-shorter message _ is.0.link.0 (omega (arith, known-least))
      (frame_is_to (sealed message) is.0.body is.0.link.0 is.0.kind is.0.number is.1) in
      subst (IsTo message) (sym (link-at message is.0.link.0 n to at)) to
