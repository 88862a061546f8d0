-- The link that bytes name.
use Rattle.std.proofs.Common.{◌≡◌, ℕ, ◌+◌, ◌*◌, ◌/◌, ◌%◌, Bool, true, false, List, [], ◌∷◌, refl, ap, subst, ◌∙◌, arith}
use Rattle.std.specs.Prelude.{◌==◌, ◌&&◌, if◌then◌else◌, Some, None}
use Rattle.std.proofs.lemmas.Bool.{and_parts}
use Rattle.std.proofs.lemmas.Bool.Decides.{Decides-eqb}
use Rattle.afdx_frame.specs.declared.link.VlId.{VlId}
use Rattle.afdx_frame.specs.Layout.{IsTo, link_named_by, LinkIsComputed}
use Rattle.afdx_frame.specs.Sealing.{AreBytes}
use Rattle.afdx_frame.proofs.LayoutLemmas.{is_to}

id_of : ℕ → VlId
id_of n = record { 0 = n }

named-only_one : (bytes : List ℕ) (vl : ℕ) → IsTo bytes vl → link_named_by bytes ≡ Some (record { 0 = vl })
unfolding id_of
named-only_one bytes vl to = ap link_named_by to.parts ∙ ap (λ (n : ℕ). Some (id_of n)) whole where
  whole : vl / 256 % 256 * 256 + vl % 256 ≡ vl
  whole = omega (arith, to.fits)

by_test : (t : Bool) (x : VlId) (vl : VlId) → (if t then Some x else None) ≡ Some vl → (t ≡ true) × (x ≡ vl)
by_test true x vl h = (refl, cc)
by_test false x vl h = cc

named : (bytes : List ℕ) (vl : VlId) → AreBytes bytes → link_named_by bytes ≡ Some vl → IsTo bytes vl.0
unfolding id_of
named [] vl h e = cc
named (a ∷ []) vl h e = cc
named (a ∷ b ∷ []) vl h e = cc
named (a ∷ b ∷ c ∷ []) vl h e = cc
named (a ∷ b ∷ c ∷ d ∷ []) vl h e = cc
named (a ∷ b ∷ c ∷ d ∷ x ∷ []) vl h e = cc
named (a ∷ b ∷ c ∷ d ∷ high ∷ low ∷ rest) vl h e =
    let told = by_test (a == 3 && b == 0 && c == 0 && d == 0) (id_of (high * 256 + low)) vl e in
    let fourth = and_parts (a == 3 && b == 0 && c == 0) (d == 0) told.0 in
    let third = and_parts (a == 3 && b == 0) (c == 0) fourth.0 in
    let second = and_parts (a == 3) (b == 0) third.0 in
    subst (λ (v : VlId). IsTo (a ∷ b ∷ c ∷ d ∷ high ∷ low ∷ rest) v.0) told.1
    (is_to (a ∷ b ∷ c ∷ d ∷ high ∷ low ∷ rest) (high * 256 + low) h (omega arith)
    ((Decides-eqb a 3).0 second.0) ((Decides-eqb b 0).0 second.1) ((Decides-eqb c 0).0 third.1)
    ((Decides-eqb d 0).0 fourth.1)
    (omega (arith, h 4, h 5)) refl)

pub link_is_computed : LinkIsComputed
link_is_computed = record { named = λ bytes vl h e. named bytes vl h e; only_one = named-only_one }
