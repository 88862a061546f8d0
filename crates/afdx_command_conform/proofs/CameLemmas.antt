-- What one more arrival gives to each key.
use Rattle.std.proofs.Common.{◌≡◌, ℕ, inl, inr, Bool, true, false, ◌&&◌, List, [], ◌∷◌, ◌++◌, map, reverse, refl, sym, ap, ◌∙◌, subst, true≢false}
use Rattle.std.proofs.lemmas.Bool.{and_parts, eqb-true}
use Rattle.std.proofs.lemmas.List.{reverse-append}
use Rattle.std.proofs.lemmas.Option.{same_Some}
use Rattle.std.specs.Prelude.{Option, Some, None, cond, filter, nat_eq, slice_get, if◌then◌else◌}
use Rattle.std.specs.List.{list_any}
use Rattle.afdx_law_bounds.specs.Tables.{port_of}
use Rattle.afdx_config.specs.Lawful.{IsLawfulSwitch}
use Rattle.afdx_config.specs.Rows.{LinkRow, Rows}
use Rattle.afdx_frame.specs.Sides.{is_side}
use Rattle.afdx_police.specs.Arrival.{Arrival, names}
use Rattle.afdx_conform.specs.Streams.{Gone}
use Rattle.afdx_input_lines.specs.declared.role.Role.TheVariants.{Came}
use Rattle.afdx_input_runs.specs.Joining.{Frame}
use Rattle.afdx_command_conform.specs.Frames.{frame_with, gone_of, is_arrival_of, left_at, link_to, place_named}
use Rattle.afdx_command_conform.specs.Keeping.{came_to, given_with, is_known, is_known_by}
use Rattle.afdx_command_conform.specs.Keys.{is_link}
use Rattle.afdx_command_conform.specs.Sight.{Sight}
use Rattle.afdx_command_conform.specs.Tapped.{is_heard, is_judged, judged_to}
use Rattle.afdx_command_conform.specs.declared.key.Key.{Key}
use Rattle.afdx_command_conform.proofs.KeyLemmas.{known-link, link-to, same-side}
use Rattle.afdx_command_conform.proofs.TappedLemmas.{any-kept, any-passes, judged-cases, judged-is, seen_ports}
use Rattle.afdx_command_conform.proofs.GivenLemmas.{given_from, linked, named-is, port-among}

-- ---- an arrival

pub never : {X : Type 0} (b c : Bool) (u v : X) → (if b && false && c then u else v) ≡ v
never true c u v = refl
never false c u v = refl

pub never-last : {X : Type 0} (b : Bool) (u v : X) → (if b && false then u else v) ≡ v
never-last true u v = refl
never-last false u v = refl

comes : (x : Frame) (s n among : Bool) (came : List Frame) (left : List Gone) → (s ≡ true → n ≡ true → among ≡ true)
    → given_with (reverse (map (λ y. y.arrival) (cond (s && n) (x ∷ came) came))) left []
    ≡ (if s && n && among then given_with (reverse (map (λ y. y.arrival) came) ++ x.arrival ∷ []) left []
    else given_with (reverse (map (λ y. y.arrival) came)) left [])
comes x false n among came left h = refl
comes x true false among came left h = refl
comes x true true among came left h =
    ap (λ l. given_with l left []) (reverse-append (x.arrival ∷ []) (map (λ y. y.arrival) came))
    ∙ ap (λ b. if b then given_with (reverse (map (λ y. y.arrival) came) ++ x.arrival ∷ []) left []
    else given_with (reverse (map (λ y. y.arrival) came)) left []) (sym (h refl refl))

pub if-false : {X : Type 0} (b : Bool) (u v : X) → (b ≡ true → ⊥) → (if b then u else v) ≡ v
if-false true u v none = absurd (none refl)
if-false false u v none = refl

pub three-parts : (a b c : Bool) → a && b && c ≡ true → (a ≡ true) × (b ≡ true) × (c ≡ true)
three-parts true true true e = (refl, refl, refl)
three-parts true true false e = absurd (true≢false (sym e))
three-parts true false c e = absurd (true≢false (sym e))
three-parts false b c e = absurd (true≢false (sym e))

-- the link at this place, where it is the one that a frame names
pub same-row : (t : Rows) (place p : ℕ) (l m : LinkRow) → nat_eq place p ≡ true → slice_get t.links place ≡ Some l
    → slice_get t.links p ≡ Some m → m ≡ l
same-row t place p l m e at there = same_Some m l (sym there
    ∙ ap (λ i. slice_get t.links i) (sym (eqb-true place p e)) ∙ at)

-- of a link that is named so
pub given-came : (t : Rows) (sight : Sight) (k : Key) (fs : List Frame) (a : Arrival) (place : ℕ) (l : LinkRow)
    → IsLawfulSwitch t
    → place_named t a.bytes ≡ Some place → slice_get t.links place ≡ Some l → is_known t k ≡ true
    → is_heard t sight a.side l ≡ true
    → given_from t sight k (frame_with Came a ∷ fs) k.link
    ≡ came_to a.side place (seen_ports t sight a.side l.to) a (λ k'. given_from t sight k' fs k'.link) k
unfolding is_known is_arrival_of left_at
given-came t sight k fs a place l lawful named at known heard = by k.link known
  where
    among : Bool
    among = list_any (λ q. nat_eq q k.port) (seen_ports t sight a.side l.to)

    judged : (p : ℕ) (m : LinkRow) → judged_to t sight k.side p k.port ≡ Some m → linked k (frame_with Came a ∷ fs)
        (Some m)
        ≡ (if is_side a.side k.side && nat_eq place p && among
        then given_with ((linked k fs (Some m)).came ++ a ∷ []) (linked k fs (Some m)).left []
        else linked k fs (Some m))
    judged p m is =
        let both = judged-is t sight k.side p k.port m is in
        let there = link-to t p k.port m both.0 in
        let n-is : names m.vl a.bytes ≡ nat_eq place p = named-is t p m a.bytes lawful there.at
        ∙ ap (λ o. is_link o (Some p)) named in
        subst (λ n. given_with (reverse (map (λ y. y.arrival)
        (cond (is_side a.side k.side && n) (frame_with Came a ∷ filter (is_arrival_of m.vl k.side) fs)
        (filter (is_arrival_of m.vl k.side) fs))))
        (reverse (map (λ x. gone_of x.arrival) (filter (λ x. left_at k.side k.port x && names m.vl x.arrival.bytes)
        fs))) []
        ≡ (if is_side a.side k.side && nat_eq place p && among
        then given_with ((linked k fs (Some m)).came ++ a ∷ []) (linked k fs (Some m)).left []
        else linked k fs (Some m))) (sym n-is)
        (comes (frame_with Came a) (is_side a.side k.side) (nat_eq place p) among
        (filter (is_arrival_of m.vl k.side) fs)
        (reverse (map (λ x. gone_of x.arrival) (filter (λ x. left_at k.side k.port x && names m.vl x.arrival.bytes)
        fs)))
        (λ s e. any-passes (sight.is_seen a.side) k.port (map (port_of t) l.to)
        (ap (λ d. sight.is_seen d k.port) (same-side a.side k.side s)
        ∙ (and_parts (is_heard t sight k.side m) (sight.is_seen k.side k.port) both.1).1)
        (subst (λ (r : LinkRow). list_any (λ q. nat_eq q k.port) (map (port_of t) r.to) ≡ true)
        (same-row t place p l m e at there.at) (port-among t m k.port there.goes))))

    unjudged : (p : ℕ) (m : LinkRow) → link_to t p k.port ≡ Some m → is_judged t sight k.side m k.port ≡ false
        → linked k (frame_with Came a ∷ fs) None
        ≡ (if is_side a.side k.side && nat_eq place p && among
        then given_with ((linked k fs None).came ++ a ∷ []) (linked k fs None).left []
        else linked k fs None)
    unjudged p m to none = sym (if-false (is_side a.side k.side && nat_eq place p && among)
        (given_with ((linked k fs None).came ++ a ∷ []) (linked k fs None).left []) (linked k fs None)
        (λ e. let parts = three-parts (is_side a.side k.side) (nat_eq place p) among e in
        let side = same-side a.side k.side parts.0 in
        let row = same-row t place p l m parts.1 at (link-to t p k.port m to).at in
        let hears : is_heard t sight k.side m ≡ true = subst (λ (r : LinkRow). is_heard t sight k.side r ≡ true)
        (sym row)
        (subst (λ d. is_heard t sight d l ≡ true) side heard) in
        let sees : sight.is_seen k.side k.port ≡ true = subst (λ d. sight.is_seen d k.port ≡ true) side
        (any-kept (sight.is_seen a.side) k.port (map (port_of t) l.to) parts.2) in
        true≢false (sym (ap (λ v. v && sight.is_seen k.side k.port) hears ∙ sees) ∙ none)))

    by : (o : Option ℕ) → is_known_by t k o ≡ true → given_from t sight k (frame_with Came a ∷ fs) o
        ≡ (if is_side a.side k.side && is_link (Some place) o && among
        then given_with ((given_from t sight k fs o).came ++ a ∷ []) (given_from t sight k fs o).left
        (given_from t sight k fs o).strange
        else given_from t sight k fs o)
    by None h = sym (never (is_side a.side k.side) among
        (given_with ((given_from t sight k fs None).came ++ a ∷ []) (given_from t sight k fs None).left
        (given_from t sight k fs None).strange)
        (given_from t sight k fs None))
    by (Some p) h =
        let found = known-link t p k.port h in
        elim (judged-cases t sight k.side p k.port found.0 found.1) [
          | inl is ↦ subst (λ o. linked k (frame_with Came a ∷ fs) o
              ≡ (if is_side a.side k.side && nat_eq place p && among
              then given_with ((linked k fs o).came ++ a ∷ []) (linked k fs o).left (linked k fs o).strange
              else linked k fs o)) (sym is.0) (judged p found.0 is.0)
          | inr none ↦ subst (λ o. linked k (frame_with Came a ∷ fs) o
              ≡ (if is_side a.side k.side && nat_eq place p && among
              then given_with ((linked k fs o).came ++ a ∷ []) (linked k fs o).left (linked k fs o).strange
              else linked k fs o)) (sym none.0) (unjudged p found.0 found.1 none.1)
        ]

-- one that comes to no stream that is judged
pub given-deaf : (t : Rows) (sight : Sight) (k : Key) (fs : List Frame) (a : Arrival)
    → ((p : ℕ) (m : LinkRow) → judged_to t sight k.side p k.port ≡ Some m
    → (is_side a.side k.side && names m.vl a.bytes) ≡ false)
    → given_from t sight k (frame_with Came a ∷ fs) k.link ≡ given_from t sight k fs k.link
unfolding is_arrival_of left_at
given-deaf t sight k fs a none = by k.link
  where
    by-link : (p : ℕ) (o : Option LinkRow) → judged_to t sight k.side p k.port ≡ o
        → linked k (frame_with Came a ∷ fs) o ≡ linked k fs o
    by-link p None is = refl
    by-link p (Some m) is = ap (λ v. given_with (reverse (map (λ y. y.arrival)
        (cond v (frame_with Came a ∷ filter (is_arrival_of m.vl k.side) fs) (filter (is_arrival_of m.vl k.side) fs))))
        (reverse (map (λ x. gone_of x.arrival) (filter (λ x. left_at k.side k.port x && names m.vl x.arrival.bytes)
        fs))) [])
        (none p m is)

    by : (o : Option ℕ) → given_from t sight k (frame_with Came a ∷ fs) o ≡ given_from t sight k fs o
    by None = refl
    by (Some p) = by-link p (judged_to t sight k.side p k.port) refl

pub and-false : (b : Bool) → (b && false) ≡ false
and-false true = refl
and-false false = refl

-- it names no link
pub given-unnamed : (t : Rows) (sight : Sight) (k : Key) (fs : List Frame) (a : Arrival) → IsLawfulSwitch t
    → place_named t a.bytes ≡ None
    → given_from t sight k (frame_with Came a ∷ fs) k.link ≡ given_from t sight k fs k.link
given-unnamed t sight k fs a lawful named = given-deaf t sight k fs a (λ p m is.
    let there = link-to t p k.port m (judged-is t sight k.side p k.port m is).0 in
    let n-is : names m.vl a.bytes ≡ false = named-is t p m a.bytes lawful there.at
    ∙ ap (λ o. is_link o (Some p)) named in
    ap (λ n. is_side a.side k.side && n) n-is ∙ and-false (is_side a.side k.side))

-- its link's port isn't recorded
pub given-unheard : (t : Rows) (sight : Sight) (k : Key) (fs : List Frame) (a : Arrival) (place : ℕ) (l : LinkRow)
    → IsLawfulSwitch t
    → place_named t a.bytes ≡ Some place → slice_get t.links place ≡ Some l → is_heard t sight a.side l ≡ false
    → given_from t sight k (frame_with Came a ∷ fs) k.link ≡ given_from t sight k fs k.link
given-unheard t sight k fs a place l lawful named at deaf = given-deaf t sight k fs a (λ p m is.
    let both = judged-is t sight k.side p k.port m is in
    let there = link-to t p k.port m both.0 in
    let n-is : names m.vl a.bytes ≡ nat_eq place p = named-is t p m a.bytes lawful there.at
    ∙ ap (λ o. is_link o (Some p)) named in
    by (is_side a.side k.side) (names m.vl a.bytes) (λ s n.
    let row = same-row t place p l m (sym n-is ∙ n) at there.at in
    let hears = (and_parts (is_heard t sight k.side m) (sight.is_seen k.side k.port) both.1).0 in
    true≢false (sym (subst (λ (r : LinkRow). is_heard t sight k.side r ≡ true) row hears)
    ∙ subst (λ d. is_heard t sight d l ≡ false) (same-side a.side k.side s) deaf)))
  where
    by : (s n : Bool) → (s ≡ true → n ≡ true → ⊥) → (s && n) ≡ false
    by false n none = refl
    by true false none = refl
    by true true none = absurd (none refl refl)
