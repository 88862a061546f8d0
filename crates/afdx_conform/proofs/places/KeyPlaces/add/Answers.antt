use Rattle.std.proofs.Common.{◌≡◌, ℕ, List, ◌∷◌, [], ◌++◌, refl, sym, ap, ◌∙◌, subst}
use Rattle.std.specs.Global.{Vec}
use Rattle.std.specs.Option.{option_copied_mut}
use Rattle.std.specs.Prelude.{if◌then◌else◌, Option, IsSome}
use Rattle.std.specs.Str.{bytes_eq}
use Rattle.afdx_conform.specs.KnownBytes.{all_of, kept_at}
use Rattle.afdx_conform.specs.declared.places.KeyPlaces.{KeyPlaces}
use Rattle.afdx_conform.proofs.PlacesLemmas.{kept-added, kept-none}
use Rattle.afdx_conform.proofs.places.KeyPlaces.add.Goals as goal

pub returns-in-Some : goal.returns-in-Some
returns-in-Some c = kept-added c.args.self.now
    (record c.args.self.now { by_key = c.get_mut.follows.lender c.push.new.self })
    c.args.key.now c.push.new.self c.args.place
    (c.in_ok-push.ensures.items ∙ ap (λ (o : Option (Vec ℕ)). all_of o ++ (c.args.place ∷ [])) c.in-Some.ensures.value)
    ((c.get_mut.follows.holds c.push.new.self).3
    (subst (λ (o : Option (Vec ℕ)). IsSome o) c.in-Some.ensures.value refl))

pub returns : goal.returns
returns c other =
    let copied = c.in_ok-copy.ensures.items in
    let none = kept-none c.get_mut.result c.in_default.not-Some (λ o. option_copied_mut o) refl
    c.get_mut.ensures.value in
    let same : record c.args.self.now { by_key = c.get_mut.follows.lender-at-none } ≡ c.args.self.now =
    ap (λ m. record c.args.self.now { by_key = m }) c.get_mut.follows.holds-at-none in
    subst (λ (l : List ℕ). kept_at (record c.args.self.now { by_key = c.insert.new.self }) other
    ≡ (if bytes_eq l other then kept_at c.args.self.now other ++ (c.args.place ∷ []) else kept_at c.args.self.now
    other)) copied
    (subst (λ (old : KeyPlaces). kept_at (record c.args.self.now { by_key = c.insert.new.self }) other
    ≡ (if bytes_eq c.in_ok-copy.copy.items other then kept_at old other ++ (c.args.place ∷ [])
    else kept_at old other)) same
    (kept-added (record c.args.self.now { by_key = c.get_mut.follows.lender-at-none })
    (record c.args.self.now { by_key = c.insert.new.self }) c.in_ok-copy.copy.items
    c.in_ok-places.places c.args.place
    (c.in_ok-places.ensures.items ∙ ap (λ (l : List ℕ). l ++ (c.args.place ∷ []))
    (sym (ap (λ (old : KeyPlaces). kept_at old c.in_ok-copy.copy.items) same
    ∙ ap (λ (l : List ℕ). kept_at c.args.self.now l) copied ∙ none)))
    c.in_ok-insert.ensures.updates other))
