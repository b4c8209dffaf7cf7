-- `echo_bytes::share` meets its contract: each number of the table by a computed test. Assumes nothing.
use Rattle.echo_bytes.proofs.Numerals.{share-at, eighth}
use Rattle.echo_bytes.proofs.share.Goals as goal

pub returns-in-1 : goal.returns-in-1
returns-in-1 c = share-at 1 72057594037927936 c.in-1.is tt

pub returns-in-2 : goal.returns-in-2
returns-in-2 c = share-at 2 7205759403792794 c.in-2.is tt

pub returns-in-3 : goal.returns-in-3
returns-in-3 c = share-at 3 720575940379280 c.in-3.is tt

pub returns-in-4 : goal.returns-in-4
returns-in-4 c = share-at 4 72057594037928 c.in-4.is tt

pub returns-in-5 : goal.returns-in-5
returns-in-5 c = share-at 5 7205759403793 c.in-5.is tt

pub returns-in-6 : goal.returns-in-6
returns-in-6 c = share-at 6 720575940380 c.in-6.is tt

pub returns-in-7 : goal.returns-in-7
returns-in-7 c = share-at 7 72057594038 c.in-7.is tt

pub returns-in_default : goal.returns-in_default
returns-in_default c =
    let rest = c.in_default.in_default-own.rest in
    share-at 8 7205759404
    (eighth _ c.requires.0 c.requires.1 rest.0.0.0.0.0.0.1 rest.0.0.0.0.0.1 rest.0.0.0.0.1 rest.0.0.0.1 rest.0.0.1
    rest.0.1 rest.1)
    tt
