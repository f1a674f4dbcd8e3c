-- "256 objects, 16 planes, 64 materials, 16 lights; 8 cutters to one object or plane; 1,024 cutters in one table that
-- all share": VIEWER.md's sections, in rows of sixteen words.
use Rattle.std.specs.Prelude.{ℕ}

pub record Section : Type 0 where
  pub count : ℕ  -- the word that counts its records
  pub first : ℕ  -- its first row
  pub most : ℕ  -- how many records it may have

abbrev pub materials : Section
materials = record { count = 0; first = 1; most = 64 }

abbrev pub planes : Section
planes = record { count = 1; first = 65; most = 16 }

abbrev pub lights : Section  -- two rows a record
lights = record { count = 2; first = 81; most = 16 }

abbrev pub objects : Section
objects = record { count = 3; first = 113; most = 256 }

abbrev pub cutter_row : ℕ  -- the cutters' first row
cutter_row = 369

abbrev pub cutter_places : ℕ  -- their places
cutter_places = 1024

abbrev pub cuts_most : ℕ  -- how many a piece may have
cuts_most = 8

-- a call's table: the plan, the arguments from a row on, a tree's nodes and order, and zeros to a whole row
abbrev pub plan_words : ℕ
plan_words = 22288

abbrev pub args_row : ℕ
args_row = 1393

abbrev pub args_words : ℕ
args_words = 144

abbrev pub nodes_first : ℕ
nodes_first = 22432

abbrev pub nodes_words : ℕ
nodes_words = 4599

abbrev pub order_first : ℕ
order_first = 27031

abbrev pub order_places : ℕ
order_places = 256

abbrev pub table_rows : ℕ
table_rows = 1706

abbrev pub table_words : ℕ
table_words = 27296
