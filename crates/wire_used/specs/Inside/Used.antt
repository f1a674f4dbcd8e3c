-- What of a call's table is used, and a table that has no more than that.
use Rattle.std.specs.Prelude.{ℕ, ◌+◌, ◌*◌, ◌-◌, ◌<◌, ◌≤◌, ◌≡◌, ◌⊎◌, List, length, Float}
use Rattle.std.specs.Float.{binary32}
use Rattle.std.specs.Float.Ieee.{of_bits}
use Rattle.words.specs.Words.{word_at}
use Rattle.plan.specs.Sections.{cutter_row, cutter_places, plan_words, nodes_first, order_first, order_places, table_words}
use Rattle.plan.specs.Sections as table
use Rattle.plan.specs.Records.{word_of, float_of}

abbrev pub cutter_first : ℕ  -- the cutters' first word
cutter_first = 16 * cutter_row

-- ---- loading
-- g is f with the words from one place up to another seen as floats
pub record Seen (w : List ℕ) (f g : List Float) (from to : ℕ) : Type 0 where
  pub long : length g ≡ table_words
  pub inside : (i : ℕ) → from ≤ i → i < to → float_of g i ≡ of_bits binary32 (word_of w i)
  pub outside : (i : ℕ) → (i < from) ⊎ (to ≤ i) → float_of g i ≡ float_of f i

pub record Shown (w : List ℕ) (f : List Float) : Type 0 where  -- f is w, seen as floats
  pub long : length w ≡ table_words
  pub wide : length f ≡ table_words
  pub each : (i : ℕ) → i < table_words → float_of f i ≡ of_bits binary32 (word_of w i)

-- x and g are w and f with other words from one place up to another
pub record Put (source : ℕ → ℕ) (w x : List ℕ) (f g : List Float) (from to : ℕ) : Type 0 where
  pub inside : (i : ℕ) → from ≤ i → i < to → word_of x i ≡ source i
  pub outside : (i : ℕ) → (i < from) ⊎ (to ≤ i) → word_of x i ≡ word_of w i
  pub shown : Shown w f → Shown x g

-- w has the words of t at such places, and f is w, seen as floats
pub record Filled (t w : List ℕ) (f : List Float) (P : ℕ → Type 0) : Type 0 where
  pub same : (i : ℕ) → P i → word_of w i ≡ word_of t i
  pub shown : Shown w f

-- ---- what is used
-- the cutters of the piece in row r, if it has any, end at place u at the latest, or begin at v at the earliest
abbrev pub EndsBy : List ℕ → ℕ → ℕ → Type 0
EndsBy w u r = (word_of w (16 * r + 2) ≡ 0) ⊎ (word_of w (16 * r + 12) + word_of w (16 * r + 2) ≤ u)

abbrev pub Begins : List ℕ → ℕ → ℕ → Type 0
Begins w v r = (word_of w (16 * r + 2) ≡ 0) ⊎ (v ≤ word_of w (16 * r + 12))

-- the counts are a plan's, and the order names none but m objects
pub record InOrder (w : List ℕ) (m : ℕ) : Type 0 where
  pub materials : word_of w (table.materials).count ≤ (table.materials).most
  pub planes : word_of w (table.planes).count ≤ (table.planes).most
  pub lights : word_of w (table.lights).count ≤ (table.lights).most
  pub objects : m ≤ (table.objects).most
  pub order : (i : ℕ) → i < order_places → word_of w (order_first + i) < m

abbrev pub SameWords : List ℕ → List ℕ → ℕ → ℕ → Type 0  -- the words of x from one place up to another are those of t
SameWords t x from to = (i : ℕ) → from ≤ i → i < to → word_of x i ≡ word_of t i

abbrev pub InRows : ℕ → ℕ → ℕ → Type 0  -- the place of a word among n rows from a row on
InRows first n i = (16 * first ≤ i) × (i < 16 * (first + n))

abbrev pub Early : ℕ → Type 0  -- the places of counts, arguments and order, and all past these
Early i = ((i < 16) ⊎ ((plan_words ≤ i) × (i < nodes_first))) ⊎ (order_first ≤ i)

abbrev pub Listed : List ℕ → ℕ → ℕ → Type 0  -- and those of the rows of the lists of t, with m objects
Listed t m i =
    (((Early i ⊎ InRows (table.materials).first (word_of t (table.materials).count) i)
    ⊎ InRows (table.planes).first (word_of t (table.planes).count) i)
    ⊎ InRows (table.lights).first (2 * word_of t (table.lights).count) i)
    ⊎ InRows (table.objects).first m i

-- x is w with the cutters before place u and from place v on
pub record WithCutters (source : ℕ → ℕ) (w x : List ℕ) (f g : List Float) (u v : ℕ) : Type 0 where
  pub front : (i : ℕ) → cutter_first ≤ i → i < cutter_first + 16 * u → word_of x i ≡ source i
  pub back : (i : ℕ) → cutter_first + 16 * v ≤ i → i < plan_words → word_of x i ≡ source i
  pub outside : (i : ℕ) → (i < cutter_first) ⊎ (plan_words ≤ i) → word_of x i ≡ word_of w i
  pub shown : Shown w f → Shown x g

-- a table t whose counts, arguments and order are loaded, and where the rest of it is lent
pub record Begun (plan nodes t w : List ℕ) (f : List Float) : Type 0 where
  pub whole : length t ≡ table_words
  pub filled : Filled t w f Early
  pub plan_is : (i : ℕ) → i < plan_words → word_at plan i ≡ word_of t i
  pub nodes_are : (i : ℕ) → nodes_first ≤ i → i < order_first → word_at nodes (i - nodes_first) ≡ word_of t i

-- x has of t the rows of its lists, the cutters of its pieces, which lie among the cutters' places, and the nodes that
-- a tree of m objects may have
pub record Used (t x : List ℕ) (m : ℕ) : Type 0 where
  pub in_order : InOrder t m
  pub objects : word_of t (table.objects).count ≤ m
  pub u : ℕ
  pub v : ℕ
  pub most : u ≤ cutter_places
  pub ends : (j : ℕ) → j < m → EndsBy t u ((table.objects).first + j)
  pub begins : (j : ℕ) → j < word_of t (table.planes).count → Begins t v ((table.planes).first + j)
  pub planes_end : (j : ℕ) → j < word_of t (table.planes).count → EndsBy t cutter_places ((table.planes).first + j)
  pub lists : (i : ℕ) → Listed t m i → word_of x i ≡ word_of t i
  pub front : SameWords t x cutter_first (cutter_first + 16 * u)
  pub back : SameWords t x (cutter_first + 16 * v) plan_words
  pub nodes : (i : ℕ) → nodes_first ≤ i → i < nodes_first + 18 * m → i < order_first → word_of x i ≡ word_of t i

pub record Spared (t x : List ℕ) : Type 0 where  -- x has of t what is used, or all
  pub long : length x ≡ table_words
  pub whole : length t ≡ table_words
  pub early : (i : ℕ) → Early i → word_of x i ≡ word_of t i
  pub rest : ((i : ℕ) → word_of x i ≡ word_of t i) ⊎ ((m : ℕ) × Used t x m)
