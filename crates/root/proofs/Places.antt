-- The digits of a root, one a step: a step keeps `Remains`, an identity of squares, and what remains in the end rounds
-- to `Nearest`. Assumes nothing.
use Rattle.std.proofs.Common.{◌≡◌, ℕ, zero, suc, ◌+◌, ◌-◌, ◌*◌, ◌/◌, ◌%◌, ◌^◌, ◌<◌, ◌≤◌, sym, refl, ap, ◌∙◌, subst, one-mul, two-mul, add-one, arith, lit<, shl_exact}
use native.Mathlib.Nat.{pow-succ'}
use Rattle.root.specs.Inside.Steps.{Remains, Nearest}

-- ---- a step: the digit at b is 1, and d remains, or it is 0
one : (n d s b : ℕ) → Remains n (s + b + d) s (b + b) → Remains n (d + d) (s + b + b) b
one n d s b h = record {
  same = square n d s b h.same;
  less = let k = h.less in omega arith;
  room = let k = h.room in omega arith;
}
  where
    square
        : (n d s b : ℕ) → s * s + (s + b + d) * (b + b + (b + b)) ≡ n
        → (s + b + b) * (s + b + b) + (d + d) * (b + b) ≡ n
    square n d s b e = omega arith

none : (n l s b : ℕ) → Remains n l s (b + b) → l < s + b → Remains n (l + l) s b
none n l s b h k = record {
  same = square n l s b h.same;
  less = omega arith;
  room = let k = h.room in omega arith;
}
  where
    square : (n l s b : ℕ) → s * s + l * (b + b + (b + b)) ≡ n → s * s + (l + l) * (b + b) ≡ n
    square n l s b e = omega arith

-- the same of machine words, in which nothing wraps: t is tried, w and x are what the step leaves
module _ (n l s b t x : ℕ) (h : Remains n l s (b + b)) (e : t ≡ (s + b) % 4294967296) where
  tried : t ≡ s + b
  tried = let k = h.room in omega arith

  small : l < 67108864
  small = few l s (b + b) h.less h.room
    where
      few : (l s u : ℕ) → l < s + s + (u + u) → s + (u + u) ≤ 33554432 → l < 67108864
      few l s u p q = omega arith

  doubled : (q : ℕ) → (x + q) % 4294967296 ≡ l * 2 % 4294967296 → x < 4294967296 → q ≤ l + l → x + q ≡ l + l
  doubled q f g k = whole x q l f g k small
    where
      whole
          : (x q l : ℕ) → (x + q) % 4294967296 ≡ l * 2 % 4294967296 → x < 4294967296 → q ≤ l + l → l < 67108864
          → x + q ≡ l + l
      whole x q l f g k m = omega arith

  pub word_one
      : (w v q : ℕ) → w ≡ v → v ≡ (t + b) % 4294967296 → q ≡ t * 2 % 4294967296
      → (x + q) % 4294967296 ≡ l * 2 % 4294967296 → x < 4294967296 → t ≤ l → Remains n x w b
  word_one w v q a f g k m o =
      let c = tried in
      let d : q ≡ t + t = twice t q h.room c g in
      let y = doubled q k m (subst (λ (z : ℕ). z ≤ l + l) (sym d) (both t l o)) in
      subst (λ (u : ℕ). Remains n u w b) (rest l t x q d y o)
      (subst (λ (u : ℕ). Remains n (l - t + (l - t)) u b) (sym (a ∙ f ∙ sum s b t h.room c))
      (one n (l - t) s b (subst (λ (u : ℕ). Remains n u s (b + b)) (over l t o c) h)))
    where
      twice : (t q : ℕ) → s + (b + b + (b + b)) ≤ 33554432 → t ≡ s + b → q ≡ t * 2 % 4294967296 → q ≡ t + t
      twice t q r c g = omega arith

      both : (t l : ℕ) → t ≤ l → t + t ≤ l + l
      both t l h = omega arith

      rest : (l t x q : ℕ) → q ≡ t + t → x + q ≡ l + l → t ≤ l → l - t + (l - t) ≡ x
      rest l t x q d y o = omega arith

      sum : (s b t : ℕ) → s + (b + b + (b + b)) ≤ 33554432 → t ≡ s + b → (t + b) % 4294967296 ≡ s + b + b
      sum s b t r c = omega arith

      over : (l t : ℕ) → t ≤ l → t ≡ s + b → l ≡ s + b + (l - t)
      over l t o c = omega arith

  pub word_none
      : (w q : ℕ) → w ≡ s → q ≡ 0 → (x + q) % 4294967296 ≡ l * 2 % 4294967296 → x < 4294967296 → l < t → Remains n x w b
  word_none w q a g k m o =
      let y = doubled q k m (nothing q g) in
      subst (λ (u : ℕ). Remains n x u b) (sym a)
      (subst (λ (u : ℕ). Remains n u s b) (same x q g y) (none n l s b h (subst (λ (u : ℕ). l < u) tried o)))
    where
      nothing : (q : ℕ) → q ≡ 0 → q ≤ l + l
      nothing q g = omega arith

      same : (x q : ℕ) → q ≡ 0 → x + q ≡ l + l → l + l ≡ x
      same x q g y = omega arith

-- ---- before the first step, and from a place to the next
pub start : (m : ℕ) → m < 33554432 → Remains (m * 33554432) m 0 (2 ^ 24)
start m h = record { same = omega arith; less = omega arith; room = omega arith }

pub next
    : (n l s x w k : ℕ) → 0 < k → k ≤ 24
    → (Remains n l s (1 * 2 ^ (k - 1) % 2 ^ 32 + 1 * 2 ^ (k - 1) % 2 ^ 32) → Remains n x w (1 * 2 ^ (k - 1) % 2 ^ 32))
    → Remains n l s (2 ^ k) → Remains n x w (2 ^ (k - 1))
next n l s x w k p h f r =
    subst (Remains n x w) bit (f (subst (Remains n l s) (two ∙ sym (ap (λ (z : ℕ). z + z) bit)) r))
  where
    bit : 1 * 2 ^ (k - 1) % 2 ^ 32 ≡ 2 ^ (k - 1)
    bit = shl_exact 1 (k - 1) 32 (lit< tt) (omega arith) ∙ one-mul (2 ^ (k - 1))

    two : 2 ^ k ≡ 2 ^ (k - 1) + 2 ^ (k - 1)
    two =
        let q : k ≡ suc (k - 1) = omega arith in
        ap (λ (z : ℕ). 2 ^ z) q ∙ pow-succ' 2 (k - 1) ∙ two-mul (2 ^ (k - 1))

-- ---- what remains after the last step
-- no tie: past the square of s, n lies an even number on, and the square of s + 1 an odd one
pub no_tie : (n l s : ℕ) → Remains n l s 1 → n ≡ (s + 1) * (s + 1) → ⊥
no_tie n l s h e = odd n l s h.same e
  where
    odd : (n l s : ℕ) → s * s + l * (1 + 1) ≡ n → n ≡ (s + 1) * (s + 1) → ⊥
    odd n l s f e = omega arith

even : (n l s m : ℕ) → Remains n l s 1 → n ≡ m * 33554432 → s ≡ s / 2 + s / 2
even n l s m h e = halves s (λ (f : s % 2 ≡ 1). odd (s / 2) n l s m h.same e (omega arith))
  where
    halves : (s : ℕ) → (s % 2 ≡ 1 → ⊥) → s ≡ s / 2 + s / 2
    halves s f = omega arith

    odd : (k n l s m : ℕ) → s * s + l * (1 + 1) ≡ n → n ≡ m * 33554432 → s ≡ k + k + 1 → ⊥
    odd k n l s m f e g =
        other k l m (ap (λ (z : ℕ). z * z + l * (1 + 1)) (sym g) ∙ f ∙ e)
      where
        other : (k l m : ℕ) → (k + k + 1) * (k + k + 1) + l * (1 + 1) ≡ m * 33554432 → ⊥
        other k l m f = omega arith

down : (n l q : ℕ) → 0 < n → Remains n l (q + q) 1 → l ≤ q + q → Nearest n q
down n l q p h k = record { over = over n l q p h.same; under = under n l q h.same k }
  where
    over : (n l q : ℕ) → 0 < n → (q + q) * (q + q) + l * (1 + 1) ≡ n → (q + q - 1) * (q + q - 1) < n
    over n l zero p e = p
    over n l (suc k) p e = less k n l (subst (λ (z : ℕ). (z + z) * (z + z) + l * (1 + 1) ≡ n) (sym (add-one k)) e)
      where
        less
            : (k n l : ℕ) → (k + 1 + (k + 1)) * (k + 1 + (k + 1)) + l * (1 + 1) ≡ n
            → (suc k + suc k - 1) * (suc k + suc k - 1) < n
        less k n l e =
            subst (λ (z : ℕ). z * z < n) (odd k) (omega arith)
          where
            odd : (k : ℕ) → k + k + 1 ≡ suc k + suc k - 1
            odd k = omega arith

    under : (n l q : ℕ) → (q + q) * (q + q) + l * (1 + 1) ≡ n → l ≤ q + q → n < (q + q + 1) * (q + q + 1)
    under n l q e k = omega arith

up : (n l q : ℕ) → Remains n l (q + q) 1 → q + q < l → Nearest n (q + 1)
up n l q h k = record {
  over = subst (λ (z : ℕ). z * z < n) (odd q) (over n l q h.same k);
  under = under n l q h.same h.less;
}
  where
    odd : (q : ℕ) → q + q + 1 ≡ q + 1 + (q + 1) - 1
    odd q = omega arith

    over : (n l q : ℕ) → (q + q) * (q + q) + l * (1 + 1) ≡ n → q + q < l → (q + q + 1) * (q + q + 1) < n
    over n l q e k = omega arith

    under
        : (n l q : ℕ) → (q + q) * (q + q) + l * (1 + 1) ≡ n → l < q + q + (q + q) + (1 + 1)
        → n < (q + 1 + (q + 1) + 1) * (q + 1 + (q + 1) + 1)
    under n l q e k = omega arith

-- half of s, and one more where more than s remains
pub rounds_down : (l s m : ℕ) → 0 < m → Remains (m * 33554432) l s 1 → l ≤ s → Nearest (m * 33554432) (s / 2)
rounds_down l s m p h k =
    let e = even (m * 33554432) l s m h refl in
    down (m * 33554432) l (s / 2) (omega arith) (subst (λ (z : ℕ). Remains (m * 33554432) l z 1) e h)
    (subst (λ (z : ℕ). l ≤ z) e k)

pub rounds_up : (l s m : ℕ) → Remains (m * 33554432) l s 1 → s < l → Nearest (m * 33554432) (s / 2 + 1)
rounds_up l s m h k =
    let e = even (m * 33554432) l s m h refl in
    up (m * 33554432) l (s / 2) (subst (λ (z : ℕ). Remains (m * 33554432) l z 1) e h) (subst (λ (z : ℕ). z < l) e k)
