-- A system by its name, in the tables of one switch or at one of several.
use Rattle.std.proofs.Common.{◌≡◌, ◌<◌, ℕ, List, Option, Some, None, inl, inr, subst, sym, ap, ◌∙◌}
use Rattle.std.proofs.Common.{option_map, option_and_then, slice_get, length, nat_lt}
use Rattle.std.specs.Prelude.{Result, Ok, Err, IfErr, IfSome}
use Rattle.std.proofs.lemmas.Bool.{ltb-true}
use Rattle.std.proofs.lemmas.Option.{cond_some, option_and_then_some, some_pair_parts, slice_get_within}
use Rattle.std.proofs.lemmas.Option.{same_Some}
use Rattle.afdx_config.specs.Reading.{system_named}
use Rattle.afdx_config.specs.Rows.{Rows}
use Rattle.afdx_config.specs.Switches.{NamedRows, own_named, home_of, if_system, system_of}
use Rattle.afdx_config.specs.declared.describing.Described.{Described}
use Rattle.afdx_config.specs.declared.rows.SystemId.{SystemId}
use Rattle.afdx_config.specs.declared.switches.SwitchId.{SwitchId}
use Rattle.afdx_input_lines.specs.declared.watched.Watched.{Watched}
use Rattle.afdx_command_tables.specs.Checking.{IsRead}
use Rattle.afdx_command_tables.specs.Senders.{HasNoSender, IsNoSender}
use Rattle.afdx_command_tables.specs.declared.sender.SenderTaken.{SenderTaken}

-- a system that was found by its name is one of the switch
pub own_named-within : (t : Rows) (name : List ℕ) (i : ℕ) → own_named t name ≡ Some i → i < t.own
unfolding own_named
own_named-within t name i at = option_and_then_some (if_system t) (system_named t.systems name) i at
    (λ j found here. let both = cond_some (nat_lt j t.own) j i here in
    subst (λ n. n < t.own) both.1 (ltb-true j t.own both.0))

pair-parts : (o : Option ℕ) (h k i : ℕ) → option_map {U = ℕ × ℕ} (λ j. (h, j)) o ≡ Some (k, i)
    → (h ≡ k) × (o ≡ Some i)
pair-parts None h k i at = absurd (cc at)
pair-parts (Some j) h k i at = let both = some_pair_parts h k j i at in (both.0, ap Some both.1)

-- a system that was found among several switches stands at one of them
pub record StandsAt (switches : List NamedRows) (name : List ℕ) (k i : ℕ) : Type 0 where
  pub here : NamedRows
  pub switch : slice_get switches k ≡ Some here
  pub named : own_named here.rows name ≡ Some i

pub system_of-stands : (switches : List NamedRows) (name : List ℕ) (k i : ℕ)
    → system_of switches name ≡ Some (k, i) → StandsAt switches name k i
unfolding system_of
system_of-stands switches name k i at =
    option_and_then_some
    (λ k. option_map (λ i. (k, i)) (option_and_then (λ s. own_named s.rows name) (slice_get switches k)))
    (home_of switches name) (k, i) at
    (λ h home found.
    let parts = pair-parts (option_and_then (λ s. own_named s.rows name) (slice_get switches h)) h k i found in
    option_and_then_some (λ s. own_named s.rows name) (slice_get switches h) i parts.1
    (λ s stands named. record {
      here = s;
      switch = subst (λ n. slice_get switches n ≡ Some s) parts.0 stands;
      named = named;
    }))

-- its switch is there, and it is one of the switch's systems
module _ (switches : List NamedRows) (name : List ℕ) where
  abbrev place_of : SwitchId × SystemId → ℕ × ℕ
  place_of found = (found.0.0, found.1.0)

  pub are-known : (r : Option (SwitchId × SystemId)) → option_map place_of r ≡ system_of switches name
      → IfSome r (λ found. found.0.0 < length switches)
  are-known None place = tt
  are-known (Some found) place =
      let at = system_of-stands switches name found.0.0 found.1.0 (sym place) in
      slice_get_within switches found.0.0 at.here at.switch

  pub are-own : (r : Option (SwitchId × SystemId)) → option_map place_of r ≡ system_of switches name
      → IfSome r (λ found. (t : Rows) → option_map (λ s. s.rows) (slice_get switches found.0.0) ≡ Some t
      → found.1.0 < t.own)
  are-own None place = tt
  are-own (Some found) place = λ t rows.
      let at = system_of-stands switches name found.0.0 found.1.0 (sym place) in
      let same : at.here.rows ≡ t =
      same_Some at.here.rows t (sym (ap (option_map (λ s. s.rows)) at.switch) ∙ rows) in
      subst (λ (x : Rows). found.1.0 < x.own) same (own_named-within at.here.rows name found.1.0 at.named)

-- there is nothing to send from in what was read
pub none-to-send : {E : Type 0} (bytes : E → Option (List ℕ)) (old new : Watched E) (config name : List ℕ)
    (d : Described) → IsRead config d → (r : Result SenderTaken ℕ) → IfErr r (HasNoSender bytes old new d name)
    → IfErr r (IsNoSender bytes old new config name)
none-to-send bytes old new config name d read (Ok taken) none = none
none-to-send bytes old new config name d read (Err status) (inl none) = inr (inl (record {
  described = d;
  read = read;
  none = none.0;
  status_is = none.1;
  told = none.2;
}))
none-to-send bytes old new config name d read (Err status) (inr (inl denied)) = inr (inr (inl (record {
  described = d;
  read = read;
  named = denied.0;
  told = denied.1;
})))
none-to-send bytes old new config name d read (Err status) (inr (inr wants)) = inr (inr (inr wants))
