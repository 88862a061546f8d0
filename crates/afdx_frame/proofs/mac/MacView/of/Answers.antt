use Rattle.std.proofs.Common.{◌≡◌, ℕ, ◌≤◌, ◌⊎◌, inl, inr, List, length, false, ◌∙◌, ap, sym, subst, arith}
use Rattle.std.specs.Prelude.{Result, Ok, Err, IfOk, IfErr, MatchResult, true}
use Rattle.afdx_frame.specs.Sealing.{AreBytes, is_sealed, sealed}
use Rattle.afdx_frame.specs.Seals.{whole, is_right}
use Rattle.afdx_frame.specs.Layout.{FrameFault}
use Rattle.afdx_frame.specs.Parts.{bytes_of, parts_of, bytes_of, frame_of, IsFrameOf, AreAtPlaces}
use Rattle.afdx_frame.specs.Reading.{NoneRead}
use Rattle.afdx_frame.specs.declared.checked.Checked.{Checked}
use Rattle.afdx_frame.specs.declared.seals.Seal.{Seal}
use Rattle.afdx_frame.specs.declared.seals.Seal.TheVariants.{Right, Wrong, Missing}
use Rattle.afdx_frame.specs.declared.mac.MacView.{MacView}
use Rattle.afdx_frame.specs.declared.fault.MacFault.{MacFault}
use Rattle.afdx_frame.specs.declared.fault.MacFault.TheVariants.{TooShort, TooLong, BadFcs}
use Rattle.afdx_frame.proofs.SealingLemmas.{is_sealed-decides}
use Rattle.afdx_frame.proofs.SealsLemmas.{whole-right, AreBytes-whole, length-sealed}
use Rattle.afdx_frame.proofs.PartsLemmas.{at_places, computed_frame, computed_fault}
use Rattle.afdx_frame.proofs.ReadingLemmas.{unframed}
use Rattle.afdx_frame.proofs.mac.MacView.of.Goals as goal

are_bytes : (frame : Checked) → AreBytes (bytes_of frame)
are_bytes frame = AreBytes-whole frame.seal frame.message.now frame.fits

-- of a frame that is sealed right
sealed_right : (frame : Checked) → frame.seal ≡ Right → bytes_of frame ≡ sealed frame.message.now
sealed_right frame e = ap (λ (s : Seal). whole s frame.message.now) e ∙ whole-right frame.message.now

-- of one that isn't
fault_of_seal : (frame : Checked) → is_right frame.seal ≡ false → 64 ≤ length (bytes_of frame)
    → length (bytes_of frame) ≤ 1518 → FrameFault (bytes_of frame) BadFcs
fault_of_seal frame wrong least most = (
  least,
  most,
  λ sealed. let yes : is_sealed (bytes_of frame) ≡ true =
      (is_sealed-decides (bytes_of frame) (are_bytes frame)).1 sealed in
      absurd (cc (frame.known, wrong)),
)

not_right : (seal : Seal) → (seal ≡ Wrong) ⊎ (seal ≡ Missing) → is_right seal ≡ false
not_right seal (inl e) = ap is_right e
not_right seal (inr e) = ap is_right e

-- what a view, or the fault, also shows
places : (bytes : List ℕ) (r : Result MacView MacFault) → IfOk r (λ view. IsFrameOf bytes (parts_of view))
    → IfOk r (λ view. AreAtPlaces bytes (parts_of view))
places bytes (Ok view) f = at_places bytes (parts_of view) f
places bytes (Err fault) f = f

unread : (bytes : List ℕ) (r : Result MacView MacFault) → IfErr r (FrameFault bytes)
    → IfErr r (λ _. NoneRead bytes)
unread bytes (Ok view) w = w
unread bytes (Err fault) w = unframed bytes fault w

computed : (bytes : List ℕ) (r : Result MacView MacFault) → AreBytes bytes
    → IfOk r (λ view. IsFrameOf bytes (parts_of view)) → IfErr r (FrameFault bytes)
    → MatchResult r (λ view. frame_of bytes ≡ Ok (parts_of view)) (λ fault. frame_of bytes ≡ Err fault)
computed bytes (Ok view) h f w = computed_frame bytes (parts_of view) h f
computed bytes (Err fault) h f w = computed_fault bytes fault h w

pub returns-then-length-clause-unread : goal.returns-then-length-clause-unread
returns-then-length-clause-unread c = unframed (bytes_of c.args.frame) TooShort (omega arith)

pub returns-then-length-clause-computed : goal.returns-then-length-clause-computed
returns-then-length-clause-computed c =
    computed_fault (bytes_of c.args.frame) TooShort (are_bytes c.args.frame) (omega arith)

pub returns-then-length-2-clause-unread : goal.returns-then-length-2-clause-unread
returns-then-length-2-clause-unread c = unframed (bytes_of c.args.frame) TooLong (omega arith)

pub returns-then-length-2-clause-computed : goal.returns-then-length-2-clause-computed
returns-then-length-2-clause-computed c =
    computed_fault (bytes_of c.args.frame) TooLong (are_bytes c.args.frame) (omega arith)

pub of_message-requires-clause-shortest : goal.of_message-requires-clause-shortest
of_message-requires-clause-shortest c =
    omega (arith, ap length (sealed_right c.args.frame c.in-Right.is), length-sealed c.args.frame.message.now)

pub of_message-requires-clause-longest : goal.of_message-requires-clause-longest
of_message-requires-clause-longest c =
    omega (arith, ap length (sealed_right c.args.frame c.in-Right.is), length-sealed c.args.frame.message.now)

pub returns-in-Right-clause-ok : goal.returns-in-Right-clause-ok
returns-in-Right-clause-ok c =
    subst (λ (b : List ℕ). IfOk c.of_message.result (λ view. IsFrameOf b (parts_of view)))
    (sym (sealed_right c.args.frame c.in-Right.is)) c.of_message.ensures.ok

pub returns-in-Right-clause-err : goal.returns-in-Right-clause-err
returns-in-Right-clause-err c =
    subst (λ (b : List ℕ). IfErr c.of_message.result (FrameFault b))
    (sym (sealed_right c.args.frame c.in-Right.is)) c.of_message.ensures.err

pub returns-in-Right-clause-at_places : goal.returns-in-Right-clause-at_places
returns-in-Right-clause-at_places c =
    places (bytes_of c.args.frame) c.of_message.result (returns-in-Right-clause-ok c)

pub returns-in-Right-clause-unread : goal.returns-in-Right-clause-unread
returns-in-Right-clause-unread c =
    unread (bytes_of c.args.frame) c.of_message.result (returns-in-Right-clause-err c)

pub returns-in-Right-clause-computed : goal.returns-in-Right-clause-computed
returns-in-Right-clause-computed c =
    computed (bytes_of c.args.frame) c.of_message.result (are_bytes c.args.frame)
    (returns-in-Right-clause-ok c) (returns-in-Right-clause-err c)

pub returns-in-Wrong-clause-err : goal.returns-in-Wrong-clause-err
returns-in-Wrong-clause-err c = fault_of_seal c.args.frame (not_right _ c.in-Wrong.is) (omega arith) (omega arith)

pub returns-in-Wrong-clause-unread : goal.returns-in-Wrong-clause-unread
returns-in-Wrong-clause-unread c = unframed (bytes_of c.args.frame) BadFcs (returns-in-Wrong-clause-err c)

pub returns-in-Wrong-clause-computed : goal.returns-in-Wrong-clause-computed
returns-in-Wrong-clause-computed c =
    computed_fault (bytes_of c.args.frame) BadFcs (are_bytes c.args.frame) (returns-in-Wrong-clause-err c)
