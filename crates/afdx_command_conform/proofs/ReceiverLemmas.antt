-- The system at an output port, among those to which a link goes.
use Rattle.std.proofs.Common.{◌≡◌, ◌<◌, ◌+◌, ◌∷◌, ◌∙◌, [], ℕ, Bool, List, None, Some, ap, false, get_or, length, map, refl, subst, sym, take, true, true≢false}
use Rattle.std.proofs.lemmas.List.Folds.{list_any_more}
use Rattle.std.specs.List.{list_any}
use Rattle.std.specs.Prelude.{◌||◌, nat_eq, slice_get}
use Rattle.afdx_law_bounds.specs.Tables.{goes_to, port_of}
use Rattle.afdx_config.specs.Lawful.{IsLawfulSwitch}
use Rattle.afdx_config.specs.Rows.{LinkRow, Rows, SystemRow, is_to}
use Rattle.afdx_command_conform.specs.Tapped.{link_to}
use Rattle.afdx_command_conform.proofs.GivenLemmas.{port-among}
use Rattle.afdx_command_conform.proofs.JoinLemmas.{any-in}
use Rattle.afdx_command_conform.proofs.OutletLemmas.{goes-port, no-link, port-is}

-- one of these is at the port
abbrev pub is_at : Rows → (port : ℕ) → (to : List ℕ) → Bool
is_at t port to = list_any (λ s. nat_eq (port_of t s) port) to

any-map : (f : ℕ → ℕ) (p : ℕ → Bool) (xs : List ℕ) → list_any p (map f xs) ≡ list_any (λ x. p (f x)) xs
any-map f p [] = refl
any-map f p (x ∷ xs) = ap (λ b. p (f x) || b) (any-map f p xs)

-- none of the first ones is, nor is the next
pub none-next : (t : Rows) (port : ℕ) (to : List ℕ) (rank s : ℕ) → s ≡ get_or to rank s → rank < length to
    → nat_eq (port_of t s) port ≡ false → is_at t port (take rank to) ≡ false → is_at t port (take (rank + 1) to)
    ≡ false
none-next t port to rank s is lt other none =
    list_any_more (λ k. nat_eq (port_of t k) port) to rank s lt
    ∙ ap (λ b. b || nat_eq (port_of t (get_or to rank s)) port) none
    ∙ subst (λ k. nat_eq (port_of t k) port ≡ false) is other

pub goes-nowhere : (t : Rows) (place port : ℕ) (l : LinkRow) → slice_get t.links place ≡ Some l
    → is_at t port l.to ≡ false → link_to t place port ≡ None
goes-nowhere t place port l at none = no-link t place port l at (by (goes_to t l port) refl)
  where
    by : (b : Bool) → goes_to t l port ≡ b → b ≡ false
    by true e = absurd (true≢false (sym (port-among t l port e)
        ∙ any-map (port_of t) (λ q. nat_eq q port) l.to ∙ none))
    by false e = refl

pub goes-at : (t : Rows) (place port : ℕ) (l : LinkRow) (rank system : ℕ) (s : SystemRow) → IsLawfulSwitch t
    → slice_get t.links place ≡ Some l → system ≡ get_or l.to rank system → rank < length l.to
    → slice_get t.systems system ≡ Some s → s.port ≡ port
    → (link_to t place port ≡ Some l) × (port_of t system ≡ port) × (is_to system l ≡ true)
goes-at t place port l rank system s lawful at is lt sat there =
    let to = any-in l.to rank system is lt in (
      subst (λ p. link_to t place p ≡ Some l) there (goes-port t place l system s lawful at sat to),
      port-is t system s sat ∙ there,
      to,
    )
