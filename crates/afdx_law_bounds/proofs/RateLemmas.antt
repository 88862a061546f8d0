-- What comes at a rate against what a line sends, over numbers.
use Rattle.std.proofs.Common.{◌≡◌, ℕ, ◌+◌, ◌*◌, ◌<◌, ◌≤◌, sym, arith}
use Rattle.std.proofs.Math.Nat.{mul-le-mul_left, mul-le-mul_right, le_of_mul-le-mul_left}
use Rattle.afdx_frame.specs.Regulation.{byte_units}

-- over numbers: a product of the line's byte time and what comes in `gap` nanoseconds
pub come-in : (b units burst rate gap : ℕ) → byte_units * units ≤ burst + rate * gap →
    b * (byte_units * units) ≤ b * burst + b * rate * gap
come-in b units burst rate gap h =
    let scaled : b * (byte_units * units) ≤ b * (burst + rate * gap) = mul-le-mul_left b h in
    omega (arith, scaled)

pub few : (b hb hr lb lr gap work bytes left h l : ℕ) → 0 < b → b * (hr + lr) ≤ byte_units →
    byte_units * h ≤ hb + hr * gap → byte_units * l ≤ lb + lr * gap →
    left + bytes ≤ h + l → b * work + gap ≤ b * left → byte_units * (work + bytes) ≤ hb + lb
few b hb hr lb lr gap work bytes left h l some rates high low came sent =
    let highs = come-in b h hb hr gap high in
    let lows = come-in b l lb lr gap low in
    let rate : b * (hr + lr) * gap ≤ byte_units * gap = mul-le-mul_right gap rates in
    let scaled : b * (left + bytes) ≤ b * (h + l) = mul-le-mul_left b came in
    let all : b * (byte_units * (work + bytes)) ≤ b * (hb + lb) = omega (arith, highs, lows, rate, scaled, sent) in
    le_of_mul-le-mul_left all some

pub even : (b hb hr lb lr gap work left h l : ℕ) → b * (hr + lr) ≤ byte_units → byte_units * h ≤ hb + hr * gap →
    byte_units * l ≤ lb + lr * gap → left ≤ h + l → work + gap ≤ b * left →
    byte_units * work ≤ b * (hb + lb)
even b hb hr lb lr gap work left h l rates high low came sent =
    let scaled : b * left ≤ b * (h + l) = mul-le-mul_left b came in
    let highs = come-in b h hb hr gap high in
    let lows = come-in b l lb lr gap low in
    let rate : b * (hr + lr) * gap ≤ byte_units * gap = mul-le-mul_right gap rates in
    omega (arith, highs, lows, rate, scaled, sent)

pub even-high : (b extra hb hr gap work left h : ℕ) → b * hr ≤ byte_units → byte_units * h ≤ hb + hr * gap →
    left ≤ h → work + gap ≤ b * (extra + left) →
    byte_units * work ≤ b * (hb + byte_units * extra)
even-high b extra hb hr gap work left h rate high came sent =
    let scaled : b * left ≤ b * h = mul-le-mul_left b came in
    let highs = come-in b h hb hr gap high in
    let rate-gap : b * hr * gap ≤ byte_units * gap = mul-le-mul_right gap rate in
    omega (arith, highs, rate-gap, scaled, sent)

-- `rest` is the rate that the high frames leave, and `wait` goes on after `gap`
pub even-low : (b hb hr lb lr rest gap wait work left h l : ℕ) → b * (hr + lr) ≤ byte_units →
    rest + b * hr ≡ byte_units → byte_units * h ≤ hb + hr * (gap + wait) → byte_units * l ≤ lb + lr * gap →
    left ≤ h + l → work + gap + wait ≤ b * left → byte_units * work + rest * wait ≤ b * (hb + lb)
even-low b hb hr lb lr rest gap wait work left h l rates whole high low came sent =
    let scaled : b * left ≤ b * (h + l) = mul-le-mul_left b came in
    let highs = come-in b h hb hr (gap + wait) high in
    let lows = come-in b l lb lr gap low in
    let small : b * lr ≤ rest = omega (arith, rates, whole) in
    let low-gap : b * lr * gap ≤ rest * gap = mul-le-mul_right gap small in
    let all : byte_units * (gap + wait) ≡ rest * (gap + wait) + b * hr * (gap + wait) = rw (sym whole) (grind arith) in
    omega (arith, highs, lows, low-gap, all, scaled, sent)

pub soon-high : (b burst rate longest since gap end h : ℕ) → b * rate ≤ byte_units →
    byte_units * h ≤ burst + rate * gap → end ≤ since + b * (longest + h) →
    byte_units * end ≤ byte_units * (since + gap) + b * (burst + byte_units * longest)
soon-high b burst rate longest since gap end h rates high sent =
    let highs = come-in b h burst rate gap high in
    let rate-gap : b * rate * gap ≤ byte_units * gap = mul-le-mul_right gap rates in
    omega (arith, highs, rate-gap, sent)

-- `rest` is the rate that the high frames leave
pub soon-low : (b hb hr lb lr rest since gap wait length h l : ℕ) → b * (hr + lr) ≤ byte_units →
    rest + b * hr ≡ byte_units → byte_units * h ≤ hb + hr * wait → byte_units * l ≤ lb + lr * gap →
    wait ≤ length → length ≤ b * (h + l) → rest * (since + length) ≤ rest * (since + gap) + b * (hb + lb)
soon-low b hb hr lb lr rest since gap wait length h l rates left high low begins sent =
    let highs = come-in b h hb hr wait high in
    let lows = come-in b l lb lr gap low in
    let small : b * lr ≤ rest = omega (arith, rates, left) in
    let low-gap : b * lr * gap ≤ rest * gap = mul-le-mul_right gap small in
    let high-gap : b * hr * wait ≤ b * hr * length = mul-le-mul_left (b * hr) begins in
    let all : byte_units * length ≡ rest * length + b * hr * length = rw (sym left) (grind arith) in
    omega (arith, highs, lows, low-gap, high-gap, all, sent)
