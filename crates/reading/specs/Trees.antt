-- Document 01's trees and readings: what a problem says, and what a script says, are both of these types.
use Rattle.std.specs.Prelude.{ℕ, List}

-- a symbol's bytes, without the bars that may stand around it
abbrev pub Name : Type 0
Name = List ℕ

mutual
  -- ("tree" is document 01's term)
  pub data Tree : Type 0 where
    variable : Name → Tree
    -- bits, the lowest first; the width is their number
    constant : List ℕ → Tree
    -- a kind of `Kinds`, SMT-LIB's numerals for it (a rotation's amount is one) and the operands
    apply : ℕ → List ℕ → Trees → Tree
    -- the array, the index, and the stores, the outermost first
    select : Name → Tree → Stores → Tree
    call : Name → Trees → Tree

  pub data Trees : Type 0 where
    none : Trees
    more : Tree → Trees → Trees

  -- pairs of an index and a value over the array itself
  pub data Stores : Type 0 where
    base : Stores
    store : Tree → Tree → Stores → Stores

pub record Variable : Type 0 where
  pub name : Name
  pub width : ℕ

pub record Array : Type 0 where
  pub name : Name
  pub index : ℕ
  pub value : ℕ

pub record Function : Type 0 where
  pub name : Name
  pub arguments : List ℕ
  pub width : ℕ

-- the three lists of declarations, each in order
pub record Declarations : Type 0 where
  pub variables : List Variable
  pub arrays : List Array
  pub functions : List Function

-- ("reading" is document 01's term)
pub record Reading : Type 0 where
  pub declarations : Declarations
  pub assertions : Trees
