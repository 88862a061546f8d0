use Rattle.std.proofs.Common.{arith, rules, ap, ◌≡◌, ℕ, List, Option, Some, None, Bor, [], ◌∷◌, false}
use Rattle.std.specs.Str.{bytes_eq}
use Rattle.std.proofs.lemmas.Str.Pattern.{split_parts}
use Rattle.afdx_command_words.proofs.PlaceLemmas.{IsCut, cut-ported, cut-whole, no-port-read, no-site-read, not-dash, spot-read}
use Rattle.afdx_command_words.proofs.place_words.place_in.Goals.{in-Some+in_ok-port_in-in-Some, in-None}
use Rattle.afdx_command_words.proofs.place_words.place_in.Goals as goal

pub returns-in_err-port_in-in-Some : goal.returns-in_err-port_in-in-Some
returns-in_err-port_in-in-Some c =
    let parts = split_parts 58 c.args.word.now (Some (c.in-Some.site, c.in-Some.port)) c.in-Some.ensures.cases
    (omega arith) in
    let none : c.from_residual.result ≡ None = search rules in
    rw none (no-port-read c.args.word.now c.in-Some.site.now c.in-Some.port.now parts.0 parts.1
    c.in_err-port_in-in-Some.ensures)

pub returns-in_err-side : goal.returns-in_err-side
returns-in_err-side c =
    let other : bytes_eq c.args.word.now (45 ∷ []) ≡ false = search rules in
    let cut : IsCut c.args.word.now c.match-split_once.port.0.now c.match-split_once.port.1 =
    elim c.match-split_once.branch [
      | in-Some+in_ok-port_in-in-Some w ↦
          let parts = split_parts 58 c.args.word.now (Some (w.in-Some.site, w.in-Some.port)) w.in-Some.ensures.cases
          (omega arith) in
          cut-ported c.args.word.now w.in-Some.site.now w.in-Some.port.now _ _ w.in_ok-port_in-in-Some.field-0
          parts.0 parts.1 (ap (λ (t : Bor (List ℕ) × Option ℕ). t.0.now) w.port-is)
          (ap (λ (t : Bor (List ℕ) × Option ℕ). t.1) w.port-is) w.in_ok-port_in-in-Some.ensures
      | in-None w ↦
          let lacks = split_parts 58 c.args.word.now None w.in-None.ensures.cases (omega arith) in
          cut-whole c.args.word.now _ _ lacks (not-dash c.args.word.now other)
          (ap (λ (t : Bor (List ℕ) × Option ℕ). t.0.now) w.port-is)
          (ap (λ (t : Bor (List ℕ) × Option ℕ). t.1) w.port-is)
    ] in
    let none : c.from_residual-in_err-side.result ≡ None = search rules in
    rw none (no-site-read c.args.word.now _ _ cut c.in_err-side.ensures)

pub returns : goal.returns
returns c =
    let other : bytes_eq c.args.word.now (45 ∷ []) ≡ false = search rules in
    let cut : IsCut c.args.word.now c.match-split_once.port.0.now c.match-split_once.port.1 =
    elim c.match-split_once.branch [
      | in-Some+in_ok-port_in-in-Some w ↦
          let parts = split_parts 58 c.args.word.now (Some (w.in-Some.site, w.in-Some.port)) w.in-Some.ensures.cases
          (omega arith) in
          cut-ported c.args.word.now w.in-Some.site.now w.in-Some.port.now _ _ w.in_ok-port_in-in-Some.field-0
          parts.0 parts.1 (ap (λ (t : Bor (List ℕ) × Option ℕ). t.0.now) w.port-is)
          (ap (λ (t : Bor (List ℕ) × Option ℕ). t.1) w.port-is) w.in_ok-port_in-in-Some.ensures
      | in-None w ↦
          let lacks = split_parts 58 c.args.word.now None w.in-None.ensures.cases (omega arith) in
          cut-whole c.args.word.now _ _ lacks (not-dash c.args.word.now other)
          (ap (λ (t : Bor (List ℕ) × Option ℕ). t.0.now) w.port-is)
          (ap (λ (t : Bor (List ℕ) × Option ℕ). t.1) w.port-is)
    ] in
    spot-read c.args.word.now c.match-split_once.port.0.now c.match-split_once.port.1 cut _ _ c.in_ok-side.ensures
