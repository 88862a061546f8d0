use Rattle.std.proofs.Common.{rules, ◌≡◌, ℕ, ◌≤◌, true, false, List, sym, ap, ap₂, ◌∙◌, arith, length}
use Rattle.std.specs.Str.{bytes_eq}
use Rattle.std.proofs.lemmas.Bool.{le-ltb}
use Rattle.afdx_frame.specs.Carried.{carried_by}
use Rattle.afdx_frame.specs.Parts.{bytes_of, parts_of}
use Rattle.afdx_lawful.specs.Flaws.{address_in, address_of, flaw_carrying}
use Rattle.afdx_lawful.proofs.FlawLemmas.{address_whole, as_carried, long_message, not_its}
use Rattle.afdx_lawful.proofs.flaws.flaw_of_view.Goals as goal

pub is_from-requires : goal.is_from-requires
is_from-requires c = long_message c.args.frame.seal c.args.frame.message.now c.requires.least

pub returns-then-not-is_from : goal.returns-then-not-is_from
returns-then-not-is_from c s x rule system side bytes =
    let message : List ℕ = c.args.frame.message.now in
    let long : 12 ≤ length message = long_message c.args.frame.seal message c.requires.least in
    let lmax : s.rule.lmax ≡ c.args.rule.now.lmax = ap (λ r. r.lmax) rule in
    let lmin : s.rule.lmin ≡ c.args.rule.now.lmin = ap (λ r. r.lmin) rule in
    let size : length x.bytes ≡ length (bytes_of c.args.frame) = ap length bytes in
    let same : bytes_eq (address_in x.bytes) (address_of s.system x.side) ≡ c.is_from.result =
    ap₂ bytes_eq (ap address_in bytes ∙ address_whole c.args.frame.seal message long) (ap₂ address_of system side)
    ∙ sym c.is_from.ensures in
    let other : c.is_from.result ≡ false = search rules in
    not_its s x (parts_of c.args.view)
    (le-ltb _ _ (omega (arith, c.if-length-rule.false, c.length-length.ensures, lmax, size)))
    (le-ltb _ _ (omega (arith, c.if-length-rule-2.false, c.length-length.ensures, lmin, size)))
    (same ∙ other)

pub returns : goal.returns
returns c s x rule system side bytes =
    let message : List ℕ = c.args.frame.message.now in
    let long : 12 ≤ length message = long_message c.args.frame.seal message c.requires.least in
    let lmax : s.rule.lmax ≡ c.args.rule.now.lmax = ap (λ r. r.lmax) rule in
    let lmin : s.rule.lmin ≡ c.args.rule.now.lmin = ap (λ r. r.lmin) rule in
    let size : length x.bytes ≡ length (bytes_of c.args.frame) = ap length bytes in
    let same : bytes_eq (address_in x.bytes) (address_of s.system x.side) ≡ c.is_from.result =
    ap₂ bytes_eq (ap address_in bytes ∙ address_whole c.args.frame.seal message long) (ap₂ address_of system side)
    ∙ sym c.is_from.ensures in
    let right : c.is_from.result ≡ true = search rules in
    c.unread.ensures (bytes_of c.args.frame) c.requires
    ∙ ap (λ (b : List ℕ). flaw_carrying (carried_by b)) (sym bytes)
    ∙ as_carried s x (parts_of c.args.view)
    (le-ltb _ _ (omega (arith, c.if-length-rule.false, c.length-length.ensures, lmax, size)))
    (le-ltb _ _ (omega (arith, c.if-length-rule-2.false, c.length-length.ensures, lmin, size)))
    (same ∙ right)
