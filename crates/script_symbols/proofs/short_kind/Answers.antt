-- `short_kind` meets its contract: each arm's number is its symbol's, and the longer symbols have numbers of more than 64 bits.
use Rattle.std.proofs.Common.{arith, rules}
use Rattle.script_symbols.specs.Packed.{code_at, no_code}
use Rattle.script_symbols.proofs.short_kind.Goals as goal

pub returns-in-1 : goal.returns-in-1
returns-in-1 c = code_at 0 (omega arith) (λ e. omega arith) c.args.v c.in-1.is

pub returns-in-1530692466274 : goal.returns-in-1530692466274
returns-in-1530692466274 c = code_at 2 (omega arith) (λ e. omega arith) c.args.v c.in-1530692466274.is

pub returns-in-1522388924002 : goal.returns-in-1522388924002
returns-in-1522388924002 c = code_at 3 (omega arith) (λ e. omega arith) c.args.v c.in-1522388924002.is

pub returns-in-1565338203746 : goal.returns-in-1565338203746
returns-in-1565338203746 c = code_at 4 (omega arith) (λ e. omega arith) c.args.v c.in-1565338203746.is

pub returns-in-411670005773922 : goal.returns-in-411670005773922
returns-in-411670005773922 c = code_at 5 (omega arith) (λ e. omega arith) c.args.v c.in-411670005773922.is

pub returns-in-401757456135778 : goal.returns-in-401757456135778
returns-in-401757456135778 c = code_at 6 (omega arith) (λ e. omega arith) c.args.v c.in-401757456135778.is

pub returns-in-1530860238434 : goal.returns-in-1530860238434
returns-in-1530860238434 c = code_at 7 (omega arith) (λ e. omega arith) c.args.v c.in-1530860238434.is

pub returns-in-6214874722 : goal.returns-in-6214874722
returns-in-6214874722 c = code_at 8 (omega arith) (λ e. omega arith) c.args.v c.in-6214874722.is

pub returns-in-1591008065122 : goal.returns-in-1591008065122
returns-in-1591008065122 c = code_at 9 (omega arith) (λ e. omega arith) c.args.v c.in-1591008065122.is

pub returns-in-1565120493154 : goal.returns-in-1565120493154
returns-in-1565120493154 c = code_at 10 (omega arith) (λ e. omega arith) c.args.v c.in-1565120493154.is

pub returns-in-407267915363938 : goal.returns-in-407267915363938
returns-in-407267915363938 c = code_at 11 (omega arith) (λ e. omega arith) c.args.v c.in-407267915363938.is

pub returns-in-407267914643042 : goal.returns-in-407267914643042
returns-in-407267914643042 c = code_at 12 (omega arith) (λ e. omega arith) c.args.v c.in-407267914643042.is

pub returns-in-104817961519577189 : goal.returns-in-104817961519577189
returns-in-104817961519577189 c = code_at 14 (omega arith) (λ e. omega arith) c.args.v c.in-104817961519577189.is

pub returns-in-409436605542243 : goal.returns-in-409436605542243
returns-in-409436605542243 c = code_at 15 (omega arith) (λ e. omega arith) c.args.v c.in-409436605542243.is

pub returns-in-23426153 : goal.returns-in-23426153
returns-in-23426153 c = code_at 18 (omega arith) (λ e. omega arith) c.args.v c.in-23426153.is

pub returns-in-317 : goal.returns-in-317
returns-in-317 c = code_at 19 (omega arith) (λ e. omega arith) c.args.v c.in-317.is

pub returns-in-1599547471458 : goal.returns-in-1599547471458
returns-in-1599547471458 c = code_at 21 (omega arith) (λ e. omega arith) c.args.v c.in-1599547471458.is

pub returns-in-1535122962018 : goal.returns-in-1535122962018
returns-in-1535122962018 c = code_at 22 (omega arith) (λ e. omega arith) c.args.v c.in-1535122962018.is

pub returns-in-1599463585378 : goal.returns-in-1599463585378
returns-in-1599463585378 c = code_at 23 (omega arith) (λ e. omega arith) c.args.v c.in-1599463585378.is

pub returns-in-1535039075938 : goal.returns-in-1535039075938
returns-in-1535039075938 c = code_at 24 (omega arith) (λ e. omega arith) c.args.v c.in-1535039075938.is

pub returns-in-1599547340386 : goal.returns-in-1599547340386
returns-in-1599547340386 c = code_at 25 (omega arith) (λ e. omega arith) c.args.v c.in-1599547340386.is

pub returns-in-1535122830946 : goal.returns-in-1535122830946
returns-in-1535122830946 c = code_at 26 (omega arith) (λ e. omega arith) c.args.v c.in-1535122830946.is

pub returns-in-1599463454306 : goal.returns-in-1599463454306
returns-in-1599463454306 c = code_at 27 (omega arith) (λ e. omega arith) c.args.v c.in-1599463454306.is

pub returns-in-1535038944866 : goal.returns-in-1535038944866
returns-in-1535038944866 c = code_at 28 (omega arith) (λ e. omega arith) c.args.v c.in-1535038944866.is

pub returns-in-24407918 : goal.returns-in-24407918
returns-in-24407918 c = code_at 29 (omega arith) (λ e. omega arith) c.args.v c.in-24407918.is

pub returns-in-23359073 : goal.returns-in-23359073
returns-in-23359073 c = code_at 30 (omega arith) (λ e. omega arith) c.args.v c.in-23359073.is

pub returns-in-94831 : goal.returns-in-94831
returns-in-94831 c = code_at 31 (omega arith) (λ e. omega arith) c.args.v c.in-94831.is

pub returns-in-1599597344354 : goal.returns-in-1599597344354
returns-in-1599597344354 c = code_at 32 (omega arith) (λ e. omega arith) c.args.v c.in-1599597344354.is

pub returns-in-1543594997346 : goal.returns-in-1543594997346
returns-in-1543594997346 c = code_at 33 (omega arith) (λ e. omega arith) c.args.v c.in-1543594997346.is

pub returns-in-411670005642850 : goal.returns-in-411670005642850
returns-in-411670005642850 c = code_at 35 (omega arith) (λ e. omega arith) c.args.v c.in-411670005642850.is

pub returns-in-401757456004706 : goal.returns-in-401757456004706
returns-in-401757456004706 c = code_at 36 (omega arith) (λ e. omega arith) c.args.v c.in-401757456004706.is

pub returns-in_default : goal.returns-in_default
returns-in_default c = no_code c.args.v (search rules)
