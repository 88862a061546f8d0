-- The faults of an arrival.
use Rattle.std.proofs.Common.{rules, ◌≡◌, ℕ, ◌++◌, sym, ◌∙◌, ◌+◌, ◌≤◌, ◌↔◌, Bool, true, false, List, [], ◌∷◌, length, refl, arith}
use Rattle.std.specs.Prelude.{◌==◌, ◌&&◌, is_none, IsSome, Option, Some, None}
use Rattle.std.specs.Option.{option_map_or}
use Rattle.std.proofs.lemmas.Bool.{not-false, ltb-false, le-ltb, eqb-true, eq-eqb, not_from_true}
use Rattle.afdx_frame.specs.declared.link.Policing.{Policing}
use Rattle.afdx_frame.specs.declared.link.Policing.TheVariants.{Byte, Frame}
use Rattle.afdx_frame.specs.declared.link.VlId.{VlId}
use Rattle.afdx_frame.specs.Layout.{link_named_by}
use Rattle.afdx_police.specs.Arrival.{Arrival, names}
use Rattle.afdx_police.specs.Laws.{IsChargedFor, StrangerIsRefused}
use Rattle.afdx_police.specs.Charge.{charge_by}
use Rattle.afdx_police.specs.Rule.{Rule}
use Rattle.afdx_police.specs.Shape.{first_of}
use Rattle.afdx_police.specs.Shape.{IsSound, faults, frame_faults, is_byte_based, fault_of, rule_faults}
use Rattle.afdx_police.proofs.FirstOfLemmas.{first_of-append, first_of-some, none-false, false-none}
use Rattle.afdx_police.specs.declared.shape.Reason.TheVariants.{UnknownLink}

-- by a rule whose link isn't named, the link is unknown, as by none
stranger : (rule : Rule) (port : ℕ) (bytes : List ℕ) (named : Bool) → named ≡ false
    → (first_of (frame_faults bytes ++ rule_faults rule port named bytes)
    ≡ first_of (frame_faults bytes ++ (true, UnknownLink) ∷ []))
    × IsSome (first_of (frame_faults bytes ++ rule_faults rule port named bytes))
stranger rule port bytes true e = absurd (cc e)
stranger rule port bytes false e =
    let some = first_of-some (frame_faults bytes) UnknownLink [] in (
      first_of-append (frame_faults bytes) (rule_faults rule port false bytes)
          ∙ sym (first_of-append (frame_faults bytes) ((true, UnknownLink) ∷ [])),
      rw (first_of-append (frame_faults bytes) (rule_faults rule port false bytes)
          ∙ sym (first_of-append (frame_faults bytes) ((true, UnknownLink) ∷ [])) ∙ some.1) search,
    )

pub stranger_refused : (rule : Rule) (port : ℕ) (bytes : List ℕ) → names rule.vl bytes ≡ false
    → StrangerIsRefused rule port bytes
unfolding fault_of
stranger_refused rule port bytes e =
    let both = stranger rule port bytes (names rule.vl bytes) e in
    record { same = both.0; refused = both.1 }

-- the least length counts only where frames are charged by bytes
least-of : (policing : Policing) (short : Bool) → (is_byte_based policing && short) ≡ false
    → policing ≡ Byte → short ≡ false
least-of Byte short h e = h
least-of Frame short h e = absurd (cc)

pub of-least : (policing : Policing) (short : Bool) → (policing ≡ Byte → short ≡ false)
    → (is_byte_based policing && short) ≡ false
of-least Byte short h = h refl
of-least Frame short h = refl

-- bytes that name a link name one
named-some : (vl : ℕ) (named : Option VlId) → option_map_or (λ n. n.0 == vl) named false ≡ true → is_none named ≡ false
named-some vl None h = absurd (cc)
named-some vl (Some v) h = refl

names-some : (vl : ℕ) (bytes : List ℕ) → names vl bytes ≡ true → is_none (link_named_by bytes) ≡ false
unfolding names
names-some vl bytes h = named-some vl (link_named_by bytes) h

faultless-sound : (rule : Rule) (port : ℕ) (bytes : List ℕ) → fault_of (Some rule) port bytes ≡ None
    → IsSound rule port bytes
unfolding fault_of
faultless-sound rule port bytes h =
    let tests = none-false (faults (Some rule) port bytes) h in
    search (rules, tests, ltb-false, not-false, eqb-true, least-of)

sound-faultless : (rule : Rule) (port : ℕ) (bytes : List ℕ) → IsSound rule port bytes
    → fault_of (Some rule) port bytes ≡ None
unfolding fault_of
sound-faultless rule port bytes h =
    false-none (faults (Some rule) port bytes)
    (search (rules, h, le-ltb, not_from_true, names-some, of-least, eq-eqb))

pub faultless-is-sound : (rule : Rule) (port : ℕ) (bytes : List ℕ)
    → (fault_of (Some rule) port bytes ≡ None) ↔ IsSound rule port bytes
faultless-is-sound rule port bytes = (faultless-sound rule port bytes, sound-faultless rule port bytes)

charged_for : (policing : Policing) (lmax wire : ℕ) → wire ≤ lmax + 20
    → (wire ≤ charge_by policing (lmax + 20) wire) × (charge_by policing (lmax + 20) wire ≤ lmax + 20)
charged_for Byte lmax wire h = (omega arith, h)
charged_for Frame lmax wire h = (h, omega arith)

pub sound-charged : (rule : Rule) (x : Arrival) → IsSound rule x.port x.bytes → IsChargedFor rule x
sound-charged rule x sound =
    let both : (length x.bytes + 20
    ≤ charge_by rule.policing (rule.lmax + 20) (length x.bytes + 20))
    × (charge_by rule.policing (rule.lmax + 20) (length x.bytes + 20) ≤ rule.lmax + 20)
    = charged_for rule.policing rule.lmax (length x.bytes + 20) (omega (arith, sound.within)) in
    record { at_least = both.0; at_most = both.1 }
