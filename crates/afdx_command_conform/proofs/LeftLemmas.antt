-- What one more frame that left gives to each key.
use Rattle.std.proofs.Common.{◌≡◌, ℕ, inl, inr, Bool, true, false, ◌&&◌, List, [], ◌∷◌, ◌++◌, map, reverse, refl, sym, ap, ◌∙◌, subst, true≢false}
use Rattle.std.proofs.lemmas.Bool.{and_parts, eqb-true}
use Rattle.std.proofs.lemmas.List.{reverse-append}
use Rattle.std.specs.Prelude.{Option, Some, None, cond, filter, nat_eq, if◌then◌else◌}
use Rattle.afdx_config.specs.Lawful.{IsLawfulSwitch}
use Rattle.afdx_config.specs.Rows.{LinkRow, Rows}
use Rattle.afdx_frame.specs.Sides.{is_side}
use Rattle.afdx_police.specs.Arrival.{Arrival, names}
use Rattle.afdx_input_lines.specs.declared.role.Role.TheVariants.{Left}
use Rattle.afdx_input_runs.specs.Joining.{Frame}
use Rattle.afdx_command_conform.specs.Frames.{frame_with, gone_of, is_arrival_of, is_stranger, left_at, link_to, place_named}
use Rattle.afdx_command_conform.specs.Keeping.{Given, given_with, is_known, is_known_by, with_left, with_strange}
use Rattle.afdx_command_conform.specs.Keys.{is_key, is_link, key_with}
use Rattle.afdx_command_conform.specs.Lines.{Due, stranger_due}
use Rattle.afdx_command_conform.specs.Sight.{Sight}
use Rattle.afdx_command_conform.specs.Tapped.{is_heard_at, is_judged, judged_to}
use Rattle.afdx_command_conform.specs.declared.key.Key.{Key}
use Rattle.afdx_command_conform.proofs.KeyLemmas.{key-same, known-link, link-to, same-side}
use Rattle.afdx_command_conform.proofs.TappedLemmas.{judged-cases, judged-is}
use Rattle.afdx_command_conform.proofs.StrangerLemmas.{judged-heard, stranger-no}
use Rattle.afdx_command_conform.proofs.GivenLemmas.{given_from, linked, named-is}
use Rattle.afdx_command_conform.proofs.CameLemmas.{and-false, if-false, never-last, same-row, three-parts}

-- ---- a frame that left

leaves : (x : Frame) (b : Bool) (came : List Arrival) (left : List Frame)
    → given_with came (reverse (map (λ y. gone_of y.arrival) (cond b (x ∷ left) left))) []
    ≡ (if b then given_with came (reverse (map (λ y. gone_of y.arrival) left) ++ gone_of x.arrival ∷ []) []
    else given_with came (reverse (map (λ y. gone_of y.arrival) left)) [])
leaves x false came left = refl
leaves x true came left =
    ap (λ l. given_with came l []) (reverse-append (gone_of x.arrival ∷ []) (map (λ y. gone_of y.arrival) left))

-- a stream at the port of a frame is that of its link
judged-there : (t : Rows) (sight : Sight) (a : Arrival) (k : Key) (place p : ℕ) (l m : LinkRow)
    → link_to t place a.port ≡ Some l → link_to t p k.port ≡ Some m → is_side a.side k.side ≡ true
    → nat_eq a.port k.port ≡ true
    → nat_eq place p ≡ true → is_judged t sight a.side l a.port ≡ is_judged t sight k.side m k.port
judged-there t sight a k place p l m to there s q n =
    let port : a.port ≡ k.port = eqb-true a.port k.port q in
    let row : m ≡ l = same-row t place p l m n (link-to t place a.port l to).at (link-to t p k.port m there).at in
    ap (λ d. is_judged t sight d l a.port) (same-side a.side k.side s) ∙ ap (λ r. is_judged t sight k.side r a.port)
    (sym row)
    ∙ ap (λ x. is_judged t sight k.side m x) port

pub given-left : (t : Rows) (sight : Sight) (k : Key) (fs : List Frame) (a : Arrival) (place : ℕ) (l : LinkRow)
    → IsLawfulSwitch t
    → place_named t a.bytes ≡ Some place → link_to t place a.port ≡ Some l → is_known t k ≡ true
    → is_judged t sight a.side l a.port ≡ true
    → given_from t sight k (frame_with Left a ∷ fs) k.link
    ≡ with_left (key_with a.side a.port (Some place)) (gone_of a) (λ k'. given_from t sight k' fs k'.link) k
unfolding is_known is_arrival_of left_at is_key
given-left t sight k fs a place l lawful named to known judges = by k.link known
  where
    strange : (b : Bool) (fs' : List Frame) (d : Arrival → Due) (u : Given)
        → given_with [] [] (map d (map (λ x. x.arrival) (cond (b && false) (frame_with Left a ∷ fs') fs')))
        ≡ (if b && false then u else given_with [] [] (map d (map (λ x. x.arrival) fs')))
    strange true fs' d u = refl
    strange false fs' d u = refl

    judged : (p : ℕ) (m : LinkRow) → judged_to t sight k.side p k.port ≡ Some m → linked k (frame_with Left a ∷ fs)
        (Some m)
        ≡ (if is_side a.side k.side && nat_eq a.port k.port && nat_eq place p
        then given_with (linked k fs (Some m)).came ((linked k fs (Some m)).left ++ gone_of a ∷ []) []
        else linked k fs (Some m))
    judged p m is =
        let there = link-to t p k.port m (judged-is t sight k.side p k.port m is).0 in
        let n-is : names m.vl a.bytes ≡ nat_eq place p = named-is t p m a.bytes lawful there.at
        ∙ ap (λ o. is_link o (Some p)) named in
        subst (λ n. given_with (linked k fs (Some m)).came (reverse (map (λ y. gone_of y.arrival)
        (cond (is_side a.side k.side && nat_eq a.port k.port && n)
        (frame_with Left a ∷ filter (λ x. left_at k.side k.port x && names m.vl x.arrival.bytes) fs)
        (filter (λ x. left_at k.side k.port x && names m.vl x.arrival.bytes) fs)))) []
        ≡ (if is_side a.side k.side && nat_eq a.port k.port && nat_eq place p
        then given_with (linked k fs (Some m)).came ((linked k fs (Some m)).left ++ gone_of a ∷ []) []
        else linked k fs (Some m))) (sym n-is)
        (leaves (frame_with Left a) (is_side a.side k.side && nat_eq a.port k.port && nat_eq place p)
        (linked k fs (Some m)).came
        (filter (λ x. left_at k.side k.port x && names m.vl x.arrival.bytes) fs))

    unjudged : (p : ℕ) (m : LinkRow) → link_to t p k.port ≡ Some m → is_judged t sight k.side m k.port ≡ false
        → linked k (frame_with Left a ∷ fs) None
        ≡ (if is_side a.side k.side && nat_eq a.port k.port && nat_eq place p
        then given_with (linked k fs None).came ((linked k fs None).left ++ gone_of a ∷ []) []
        else linked k fs None)
    unjudged p m there none = sym (if-false (is_side a.side k.side && nat_eq a.port k.port && nat_eq place p)
        (given_with (linked k fs None).came ((linked k fs None).left ++ gone_of a ∷ []) []) (linked k fs None)
        (λ e. let parts = three-parts (is_side a.side k.side) (nat_eq a.port k.port) (nat_eq place p) e in
        true≢false (sym judges ∙ judged-there t sight a k place p l m to there parts.0 parts.1 parts.2 ∙ none)))

    by : (o : Option ℕ) → is_known_by t k o ≡ true → given_from t sight k (frame_with Left a ∷ fs) o
        ≡ (if is_side a.side k.side && nat_eq a.port k.port && is_link (Some place) o
        then given_with (given_from t sight k fs o).came ((given_from t sight k fs o).left ++ gone_of a ∷ [])
        (given_from t sight k fs o).strange
        else given_from t sight k fs o)
    by None h =
        subst (λ n. given_with [] [] (map (stranger_due t k) (map (λ x. x.arrival)
        (cond (is_side a.side k.side && nat_eq a.port k.port && n)
        (frame_with Left a ∷ filter (λ x. left_at k.side k.port x && is_stranger t sight x.arrival) fs)
        (filter (λ x. left_at k.side k.port x && is_stranger t sight x.arrival) fs))))
        ≡ (if is_side a.side k.side && nat_eq a.port k.port && false
        then given_with (given_from t sight k fs None).came ((given_from t sight k fs None).left ++ gone_of a ∷ [])
        (given_from t sight k fs None).strange
        else given_from t sight k fs None)) (sym (stranger-no t sight a place l named to
        (judged-heard t sight a.side place a.port l (link-to t place a.port l to).at judges)))
        (strange (is_side a.side k.side && nat_eq a.port k.port)
        (filter (λ x. left_at k.side k.port x && is_stranger t sight x.arrival) fs) (stranger_due t k)
        (given_with (given_from t sight k fs None).came ((given_from t sight k fs None).left ++ gone_of a ∷ [])
        (given_from t sight k fs None).strange))
    by (Some p) h =
        let found = known-link t p k.port h in
        elim (judged-cases t sight k.side p k.port found.0 found.1) [
          | inl is ↦ subst (λ o. linked k (frame_with Left a ∷ fs) o
              ≡ (if is_side a.side k.side && nat_eq a.port k.port && nat_eq place p
              then given_with (linked k fs o).came ((linked k fs o).left ++ gone_of a ∷ []) (linked k fs o).strange
              else linked k fs o)) (sym is.0) (judged p found.0 is.0)
          | inr none ↦ subst (λ o. linked k (frame_with Left a ∷ fs) o
              ≡ (if is_side a.side k.side && nat_eq a.port k.port && nat_eq place p
              then given_with (linked k fs o).came ((linked k fs o).left ++ gone_of a ∷ []) (linked k fs o).strange
              else linked k fs o)) (sym none.0) (unjudged p found.0 found.1 none.1)
        ]

-- one that left where its stream isn't judged
pub given-unseen : (t : Rows) (sight : Sight) (k : Key) (fs : List Frame) (a : Arrival) (place : ℕ) (l : LinkRow)
    → IsLawfulSwitch t
    → place_named t a.bytes ≡ Some place → link_to t place a.port ≡ Some l → is_stranger t sight a ≡ false
    → is_judged t sight a.side l a.port ≡ false → given_from t sight k (frame_with Left a ∷ fs) k.link
    ≡ given_from t sight k fs k.link
unfolding is_arrival_of left_at
given-unseen t sight k fs a place l lawful named to own none = by k.link
  where
    by-three : (s p n : Bool) → (s ≡ true → p ≡ true → n ≡ true → ⊥) → (s && p && n) ≡ false
    by-three false p n never' = refl
    by-three true false n never' = refl
    by-three true true false never' = refl
    by-three true true true never' = absurd (never' refl refl refl)

    by-link : (p : ℕ) (o : Option LinkRow) → judged_to t sight k.side p k.port ≡ o
        → linked k (frame_with Left a ∷ fs) o ≡ linked k fs o
    by-link p None is = refl
    by-link p (Some m) is =
        let both = judged-is t sight k.side p k.port m is in
        let there = link-to t p k.port m both.0 in
        let n-is : names m.vl a.bytes ≡ nat_eq place p = named-is t p m a.bytes lawful there.at
        ∙ ap (λ o. is_link o (Some p)) named in
        ap (λ v. given_with (linked k fs (Some m)).came (reverse (map (λ y. gone_of y.arrival)
        (cond v (frame_with Left a ∷ filter (λ x. left_at k.side k.port x && names m.vl x.arrival.bytes) fs)
        (filter (λ x. left_at k.side k.port x && names m.vl x.arrival.bytes) fs)))) [])
        (by-three (is_side a.side k.side) (nat_eq a.port k.port) (names m.vl a.bytes) (λ s q n.
        true≢false (sym (judged-there t sight a k place p l m to both.0 s q (sym n-is ∙ n) ∙ both.1) ∙ none)))

    by : (o : Option ℕ) → given_from t sight k (frame_with Left a ∷ fs) o ≡ given_from t sight k fs o
    by None = ap (λ v. given_with [] [] (map (stranger_due t k) (map (λ x. x.arrival)
        (cond v (frame_with Left a ∷ filter (λ x. left_at k.side k.port x && is_stranger t sight x.arrival) fs)
        (filter (λ x. left_at k.side k.port x && is_stranger t sight x.arrival) fs)))))
        (ap (λ n. is_side a.side k.side && nat_eq a.port k.port && n) own
        ∙ and-false (is_side a.side k.side && nat_eq a.port k.port))
    by (Some p) = by-link p (judged_to t sight k.side p k.port) refl

pub given-strange : (t : Rows) (sight : Sight) (k : Key) (fs : List Frame) (a : Arrival) → IsLawfulSwitch t
    → is_stranger t sight a ≡ true → is_known t k ≡ true
    → given_from t sight k (frame_with Left a ∷ fs) k.link
    ≡ with_strange (key_with a.side a.port None) (stranger_due t (key_with a.side a.port None) a)
    (λ k'. given_from t sight k' fs k'.link) k
unfolding is_known is_arrival_of left_at is_key
given-strange t sight k fs a lawful strange known = by k.link refl known
  where
    tells : (b : Bool) (fs' : List Frame) (d : Arrival → Due) (e : Due) → (b ≡ true → d a ≡ e)
        → given_with [] [] (map d (map (λ x. x.arrival) (cond (b && true) (frame_with Left a ∷ fs') fs')))
        ≡ (if b && true then given_with [] [] (e ∷ map d (map (λ x. x.arrival) fs'))
        else given_with [] [] (map d (map (λ x. x.arrival) fs')))
    tells true fs' d e same = ap (λ x. given_with [] [] (x ∷ map d (map (λ y. y.arrival) fs'))) (same refl)
    tells false fs' d e same = refl

    passes : (b : Bool) (came : List Arrival) (fs' : List Frame) (u : Given) → (b ≡ true → ⊥)
        → (c : Bool)
        → given_with came (reverse (map (λ y. gone_of y.arrival) (cond b (frame_with Left a ∷ fs') fs'))) []
        ≡ (if c && false then u else given_with came (reverse (map (λ y. gone_of y.arrival) fs')) [])
    passes true came fs' u none c = absurd (none refl)
    passes false came fs' u none true = refl
    passes false came fs' u none false = refl

    same-place : (o : Option ℕ) (p : ℕ) → is_link o (Some p) ≡ true → o ≡ Some p
    same-place None p e = absurd (true≢false (sym e))
    same-place (Some q) p e = ap (λ n. Some n) (eqb-true q p e)

    same-key : (o : Option ℕ) → k.link ≡ None → is_side a.side k.side && nat_eq a.port k.port ≡ true
        → key_with a.side a.port None ≡ k
    same-key o none e =
        key-same (key_with a.side a.port None) k (ap (λ v. v && is_link None k.link) e
        ∙ ap (λ o'. is_link None o') none)

    judged : (p : ℕ) (m : LinkRow) → judged_to t sight k.side p k.port ≡ Some m → linked k (frame_with Left a ∷ fs)
        (Some m)
        ≡ (if is_side a.side k.side && nat_eq a.port k.port && false
        then given_with (linked k fs (Some m)).came (linked k fs (Some m)).left
        (stranger_due t (key_with a.side a.port None) a ∷ [])
        else linked k fs (Some m))
    judged p m is =
        let both = judged-is t sight k.side p k.port m is in
        let to = both.0 in
        let there = link-to t p k.port m to in
        passes (is_side a.side k.side && nat_eq a.port k.port && names m.vl a.bytes)
        (linked k fs (Some m)).came
        (filter (λ x. left_at k.side k.port x && names m.vl x.arrival.bytes) fs)
        (given_with (linked k fs (Some m)).came (linked k fs (Some m)).left
        (stranger_due t (key_with a.side a.port None) a ∷ []))
        (λ e. let first = and_parts (is_side a.side k.side && nat_eq a.port k.port) (names m.vl a.bytes) e in
        let where-is = and_parts (is_side a.side k.side) (nat_eq a.port k.port) first.0 in
        let port : a.port ≡ k.port = eqb-true a.port k.port where-is.1 in
        let heard : is_heard_at t sight a.side (Some p) ≡ true = ap (λ d. is_heard_at t sight d (Some p))
        (same-side a.side k.side where-is.0)
        ∙ judged-heard t sight k.side p k.port m there.at both.1 in
        let place : place_named t a.bytes ≡ Some p = same-place (place_named t a.bytes) p
        (sym (named-is t p m a.bytes lawful there.at) ∙ first.1) in
        true≢false (sym strange ∙ stranger-no t sight a p m place (ap (λ q. link_to t p q) port ∙ to) heard))
        (is_side a.side k.side && nat_eq a.port k.port)

    by-link : (p : ℕ) (o : Option LinkRow) → judged_to t sight k.side p k.port ≡ o → linked k (frame_with Left a ∷ fs) o
        ≡ (if is_side a.side k.side && nat_eq a.port k.port && false
        then given_with (linked k fs o).came (linked k fs o).left
        (stranger_due t (key_with a.side a.port None) a ∷ (linked k fs o).strange)
        else linked k fs o)
    by-link p None is = sym (never-last (is_side a.side k.side && nat_eq a.port k.port)
        (given_with [] [] (stranger_due t (key_with a.side a.port None) a ∷ [])) (given_with [] [] []))
    by-link p (Some m) is = judged p m is

    by : (o : Option ℕ) → k.link ≡ o → is_known_by t k o ≡ true → given_from t sight k (frame_with Left a ∷ fs) o
        ≡ (if is_side a.side k.side && nat_eq a.port k.port && is_link None o
        then given_with (given_from t sight k fs o).came (given_from t sight k fs o).left
        (stranger_due t (key_with a.side a.port None) a ∷ (given_from t sight k fs o).strange)
        else given_from t sight k fs o)
    by None none h =
        subst (λ n. given_with [] [] (map (stranger_due t k) (map (λ x. x.arrival)
        (cond (is_side a.side k.side && nat_eq a.port k.port && n)
        (frame_with Left a ∷ filter (λ x. left_at k.side k.port x && is_stranger t sight x.arrival) fs)
        (filter (λ x. left_at k.side k.port x && is_stranger t sight x.arrival) fs))))
        ≡ (if is_side a.side k.side && nat_eq a.port k.port && true
        then given_with [] [] (stranger_due t (key_with a.side a.port None) a ∷ (given_from t sight k fs None).strange)
        else given_from t sight k fs None)) (sym strange)
        (tells (is_side a.side k.side && nat_eq a.port k.port)
        (filter (λ x. left_at k.side k.port x && is_stranger t sight x.arrival) fs) (stranger_due t k)
        (stranger_due t (key_with a.side a.port None) a)
        (λ e. ap (λ q. stranger_due t q a) (sym (same-key None none e))))
    by (Some p) is h = by-link p (judged_to t sight k.side p k.port) refl
