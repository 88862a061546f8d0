-- The parts of a frame stand at their places, and what is computed of bytes is the frame or the
-- fault that the layout gives.
use Rattle.std.proofs.Common.{◌≡◌, ℕ, ◌+◌, ◌-◌, ◌*◌, ◌/◌, ◌%◌, ◌<◌, ◌≤◌, inl, inr, Bool, true}
use Rattle.std.proofs.Common.{false, List, [], ◌∷◌, ◌++◌, length, take, drop, get_or, refl, sym, ap}
use Rattle.std.proofs.Common.{ap₂, subst, ◌∙◌, arith, append_assoc}
use Rattle.std.specs.Prelude.{not, if◌then◌else◌, Option, Some, None, Result, Ok, Err, MatchResult}
use Rattle.std.specs.Int.{w32, to_le_bytes}
use Rattle.std.specs.Bool.{Decides}
use Rattle.std.proofs.lemmas.Bool.{cases_lt}
use Rattle.std.proofs.lemmas.Bool.Decides.{Decides-ltb}
use Rattle.std.proofs.lemmas.List.{take_at, length-append}
use Rattle.std.proofs.Math.Seq.{get_or-append_seam}
use Rattle.afdx_frame.specs.declared.link.VlId.{VlId}
use Rattle.afdx_frame.specs.declared.fault.MacFault.{MacFault}
use Rattle.afdx_frame.specs.declared.fault.MacFault.TheVariants.{TooShort, TooLong, BadFcs, BadAddress}
use Rattle.afdx_frame.specs.Sequence.{IsSealed}
use Rattle.afdx_frame.specs.Sealing.{is_sealed, AreBytes}
use Rattle.afdx_frame.specs.Layout.{IsTo, IsFrame, FrameFault, link_named_by, unsealed}
use Rattle.afdx_frame.specs.Parts.{FrameParts, type_of_frame, body_of_frame, number_of_frame}
use Rattle.afdx_frame.specs.Parts.{frame_with, frame_of, IsFrameOf, AreAtPlaces, FrameIsComputed}
use Rattle.afdx_frame.proofs.LeftLemmas.{AreBytes-take, AreBytes-drop}
use Rattle.afdx_frame.proofs.SealingLemmas.{is_sealed-decides}
use Rattle.afdx_frame.proofs.LayoutLemmas.{is_frame}
use Rattle.afdx_frame.proofs.LinkLemmas.{link_is_computed}
use Rattle.afdx_frame.proofs.SoundLemmas.{frames_are_sound, frame_is_to}

-- ---- the parts at their places

six : (l : List ℕ) → length l ≡ 6 → l ≡ get_or l 0 0 ∷ get_or l 1 0 ∷ get_or l 2 0 ∷ get_or l 3 0
    ∷ get_or l 4 0 ∷ get_or l 5 0 ∷ []
six [] h = absurd (omega arith)
six (a ∷ []) h = absurd (omega arith)
six (a ∷ b ∷ []) h = absurd (omega arith)
six (a ∷ b ∷ c ∷ []) h = absurd (omega arith)
six (a ∷ b ∷ c ∷ d ∷ []) h = absurd (omega arith)
six (a ∷ b ∷ c ∷ d ∷ e ∷ []) h = absurd (omega arith)
six (a ∷ b ∷ c ∷ d ∷ e ∷ f ∷ []) h = refl
six (a ∷ b ∷ c ∷ d ∷ e ∷ f ∷ g ∷ l) h = absurd (omega arith)

-- the bytes before the body
front : ℕ → ℕ → List ℕ → List ℕ → List ℕ
front vl kind s rest = 3 ∷ 0 ∷ 0 ∷ 0 ∷ vl / 256 % 256 ∷ vl % 256 ∷ get_or s 0 0 ∷ get_or s 1 0
    ∷ get_or s 2 0 ∷ get_or s 3 0 ∷ get_or s 4 0 ∷ get_or s 5 0 ∷ kind / 256 % 256 ∷ kind % 256 ∷ rest

cells : (bytes body : List ℕ) (vl kind number : ℕ) → (f : IsFrame bytes vl kind body number)
    → bytes ≡ front vl kind f.source (body ++ number ∷ to_le_bytes w32 f.check)
unfolding front
cells bytes body vl kind number f =
    f.parts
    ∙ ap (λ (s : List ℕ). unsealed vl s kind body number ++ to_le_bytes w32 f.check) (six f.source f.source_length)
    ∙ ap (front vl kind f.source) (append_assoc body (number ∷ []) (to_le_bytes w32 f.check))

length-frame : (bytes body : List ℕ) (vl kind number : ℕ) → IsFrame bytes vl kind body number
    → length bytes ≡ length body + 19
unfolding front
length-frame bytes body vl kind number f =
    ap length (cells bytes body vl kind number f) ∙ omega (arith, length-append body (number ∷ to_le_bytes w32 f.check))

body-at_place : (bytes body : List ℕ) (vl kind number : ℕ) → IsFrame bytes vl kind body number
    → body ≡ body_of_frame bytes
unfolding front
body-at_place bytes body vl kind number f =
    sym (ap (λ (l : List ℕ). take (length bytes - 19) (drop 14 l)) (cells bytes body vl kind number f)
    ∙ take_at body (number ∷ to_le_bytes w32 f.check) (length bytes - 19)
    (omega (arith, length-frame bytes body vl kind number f)))

number-at_place : (bytes body : List ℕ) (vl kind number : ℕ) → IsFrame bytes vl kind body number
    → number ≡ number_of_frame bytes
unfolding front
number-at_place bytes body vl kind number f =
    sym (ap₂ (λ (l : List ℕ) (i : ℕ). get_or l i 0) (cells bytes body vl kind number f) place
    ∙ get_or-append_seam (front vl kind f.source body) number (to_le_bytes w32 f.check) 0)
  where
    place : length bytes - 5 ≡ length (front vl kind f.source body)
    place = omega (arith, length-frame bytes body vl kind number f)

kind-at_place : (bytes body : List ℕ) (vl kind number : ℕ) → IsFrame bytes vl kind body number
    → kind ≡ type_of_frame bytes
unfolding front
kind-at_place bytes body vl kind number f =
    let at : type_of_frame bytes ≡ kind / 256 % 256 * 256 + kind % 256 =
    ap type_of_frame (cells bytes body vl kind number f) in
    omega (arith, at, f.kind_fits)

pub at_places : (bytes : List ℕ) (p : FrameParts) → IsFrameOf bytes p → AreAtPlaces bytes p
at_places bytes p f = record {
  link = link_is_computed.only_one bytes p.link.0 (frame_is_to bytes p.body p.link.0 p.kind p.number f);
  kind = kind-at_place bytes p.body p.link.0 p.kind p.number f;
  body = body-at_place bytes p.body p.link.0 p.kind p.number f;
  number = number-at_place bytes p.body p.link.0 p.kind p.number f;
  long = length-frame bytes p.body p.link.0 p.kind p.number f;
}

parts : VlId → ℕ → List ℕ → ℕ → FrameParts
parts vl kind body number = record { link = vl; kind = kind; body = body; number = number }

some_same : (a b : VlId) → Some a ≡ Some b → a ≡ b
some_same a b e = cc

pub same_parts : (bytes : List ℕ) (p q : FrameParts) → AreAtPlaces bytes p → AreAtPlaces bytes q → p ≡ q
unfolding parts
same_parts bytes p q a b =
    ap₂ (λ (vl : VlId) (kind : ℕ). parts vl kind p.body p.number)
    (some_same p.link q.link (sym a.link ∙ b.link)) (a.kind ∙ sym b.kind)
    ∙ ap₂ (λ (body : List ℕ) (number : ℕ). parts q.link q.kind body number) (a.body ∙ sym b.body)
    (a.number ∙ sym b.number)

-- the body of bytes are bytes
pub AreBytes-body : (bytes : List ℕ) (p : FrameParts) → AreBytes bytes → IsFrameOf bytes p → AreBytes p.body
AreBytes-body bytes p h f =
    subst AreBytes (sym (at_places bytes p f).body)
    (AreBytes-take (length bytes - 19) (drop 14 bytes) (AreBytes-drop 14 bytes h))

-- ---- what is computed

at_least : (a : Bool) (n m : ℕ) → a ≡ false → Decides a (n < m) → m ≤ n
at_least a n m e d = elim (cases_lt n m) [ inl lt ↦ let yes : a ≡ true = d.1 lt in absurd cc | inr le ↦ le ]

no_link : (bytes : List ℕ) → None ≡ link_named_by bytes → (vl : ℕ) → IsTo bytes vl → ⊥
no_link bytes none vl to = let some = link_is_computed.only_one bytes vl to in absurd cc

steps : (bytes : List ℕ) (a b s : Bool) (l : Option VlId) → AreBytes bytes
    → Decides a (length bytes < 64) → Decides b (1518 < length bytes) → Decides s (IsSealed bytes)
    → l ≡ link_named_by bytes
    → MatchResult (if a then Err TooShort else
    (if b then Err TooLong else (if not s then Err BadFcs else frame_with bytes l)))
    (IsFrameOf bytes) (FrameFault bytes)
steps bytes true b s l h da db ds e = da.0 refl
steps bytes false true s l h da db ds e = db.0 refl
steps bytes false false false l h da db ds e = (
  at_least false (length bytes) 64 refl da,
  at_least false 1518 (length bytes) refl db,
  λ sealed. let yes : false ≡ true = ds.1 sealed in absurd cc,
)
steps bytes false false true None h da db ds e = (
  at_least false (length bytes) 64 refl da,
  at_least false 1518 (length bytes) refl db,
  ds.0 refl,
  no_link bytes e,
)
steps bytes false false true (Some vl) h da db ds e =
    is_frame bytes vl.0 (type_of_frame bytes) (number_of_frame bytes) (body_of_frame bytes) h
    (at_least false (length bytes) 64 refl da) (at_least false 1518 (length bytes) refl db)
    (ds.0 refl)
    (link_is_computed.named bytes vl h (sym e)) (omega (arith, h 12, h 13)) refl
    (ap (λ (n : ℕ). take n (drop 14 bytes)) (omega arith)) refl

pub frame_exact : (bytes : List ℕ) → AreBytes bytes → MatchResult (frame_of bytes) (IsFrameOf bytes) (FrameFault bytes)
unfolding frame_of
frame_exact bytes h = steps bytes _ _ (is_sealed bytes) (link_named_by bytes) h
    (Decides-ltb (length bytes) 64) (Decides-ltb 1518 (length bytes)) (is_sealed-decides bytes h) refl

-- bytes have one first fault
one_fault : (bytes : List ℕ) (e f : MacFault) → FrameFault bytes e → FrameFault bytes f → e ≡ f
one_fault bytes TooShort TooShort w v = refl
one_fault bytes TooShort TooLong w v = absurd (omega (arith, w, v))
one_fault bytes TooShort BadFcs w v = absurd (omega (arith, w, v.0))
one_fault bytes TooShort BadAddress w v = absurd (omega (arith, w, v.0))
one_fault bytes TooLong TooShort w v = absurd (omega (arith, w, v))
one_fault bytes TooLong TooLong w v = refl
one_fault bytes TooLong BadFcs w v = absurd (omega (arith, w, v.1))
one_fault bytes TooLong BadAddress w v = absurd (omega (arith, w, v.1))
one_fault bytes BadFcs TooShort w v = absurd (omega (arith, w.0, v))
one_fault bytes BadFcs TooLong w v = absurd (omega (arith, w.1, v))
one_fault bytes BadFcs BadFcs w v = refl
one_fault bytes BadFcs BadAddress w v = absurd (w.2 v.2)
one_fault bytes BadAddress TooShort w v = absurd (omega (arith, w.0, v))
one_fault bytes BadAddress TooLong w v = absurd (omega (arith, w.1, v))
one_fault bytes BadAddress BadFcs w v = absurd (v.2 w.2)
one_fault bytes BadAddress BadAddress w v = refl

the_frame : (bytes : List ℕ) (p : FrameParts) (r : Result FrameParts MacFault)
    → MatchResult r (IsFrameOf bytes) (FrameFault bytes) → IsFrameOf bytes p → r ≡ Ok p
the_frame bytes p (Ok q) m f = ap Ok (same_parts bytes q p (at_places bytes q m) (at_places bytes p f))
the_frame bytes p (Err e) m f = absurd (frames_are_sound bytes p.body p.link.0 p.kind p.number e f m)

the_fault : (bytes : List ℕ) (e : MacFault) (r : Result FrameParts MacFault)
    → MatchResult r (IsFrameOf bytes) (FrameFault bytes) → FrameFault bytes e → r ≡ Err e
the_fault bytes e (Ok q) m f = absurd (frames_are_sound bytes q.body q.link.0 q.kind q.number e m f)
the_fault bytes e (Err g) m f = ap Err (one_fault bytes g e m f)

pub computed_frame : (bytes : List ℕ) (p : FrameParts) → AreBytes bytes → IsFrameOf bytes p → frame_of bytes ≡ Ok p
computed_frame bytes p h f = the_frame bytes p (frame_of bytes) (frame_exact bytes h) f

pub computed_fault : (bytes : List ℕ) (e : MacFault) → AreBytes bytes → FrameFault bytes e → frame_of bytes ≡ Err e
computed_fault bytes e h f = the_fault bytes e (frame_of bytes) (frame_exact bytes h) f

pub frame_is_computed : FrameIsComputed
frame_is_computed = record {
  at_places = at_places;
  frame = λ bytes p h. (
    λ e.
        subst (λ (r : Result FrameParts MacFault). MatchResult r (IsFrameOf bytes) (FrameFault bytes))
        e (frame_exact bytes h),
    λ f. computed_frame bytes p h f,
  );
  fault = λ bytes e h. (
    λ is.
        subst (λ (r : Result FrameParts MacFault). MatchResult r (IsFrameOf bytes) (FrameFault bytes))
        is (frame_exact bytes h),
    λ f. computed_fault bytes e h f,
  );
}
