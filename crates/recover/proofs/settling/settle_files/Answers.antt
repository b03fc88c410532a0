use Rattle.std.proofs.Common.{None, inl, length}
use Rattle.log_spec.specs.LogHeader.{log_fields}
use Rattle.opening_spec.specs.Found.{IsFirst}
use Rattle.opening_spec.specs.States.{AreSynced, IsResetting, IsSettled, header1_of, header2_of}
use Rattle.opening_spec.proofs.Settling.{opening_then, opening_failed}
use Rattle.recover.specs.Places.{FitPlaces, AreSeen}
use Rattle.recover.proofs.Placing.{said_still}
use Rattle.recover.proofs.settling.settle_files.Goals as goal

pub returns-in-Ok-reset_logs-clause-moments : goal.returns-in-Ok-reset_logs-clause-moments
returns-in-Ok-reset_logs-clause-moments g c view one two h sized none seen is own next after =
    let first = c.args.headers.now.first in
    let here = log_fields c.args.headers.now.here.bytes in
    let there = log_fields c.args.headers.now.there.bytes in
    let synced = c.in-Ok.ensures.moments view one two h in
    let same = c.in-Ok.ensures.reads in
    let laid = opening_then view (λ told. AreSynced view one two told) (λ told. IsResetting view first one two None told) _ _ _ synced
    (λ k. c.in-Ok-lay_down.ensures.moments view one two first k sized none
    (λ some. said_still (λ files. AreSeen view one two c.args.places.now files) _ _ same (seen some)) c.requires.first
    (said_still (λ files. IsFirst files first one two) _ _ same is)) in
    opening_then view (λ told. IsResetting view first one two None told) (IsSettled view (header1_of first here there) (header2_of first here there)) _ _ _ laid
    (λ k. c.in-Ok-reset_logs.ensures.moments view one two k (inl own) next after)

pub returns-in-Err-reset_logs-clause-moments : goal.returns-in-Err-reset_logs-clause-moments
returns-in-Err-reset_logs-clause-moments g c view one two h sized none seen is own next after =
    let first = c.args.headers.now.first in
    let synced = c.in-Ok.ensures.moments view one two h in
    let same = c.in-Ok.ensures.reads in
    let laid = opening_then view (λ told. AreSynced view one two told) (λ told. IsResetting view first one two None told) _ _ _ synced
    (λ k. c.in-Ok-lay_down.ensures.moments view one two first k sized none
    (λ some. said_still (λ files. AreSeen view one two c.args.places.now files) _ _ same (seen some)) c.requires.first
    (said_still (λ files. IsFirst files first one two) _ _ same is)) in
    opening_then view (λ told. IsResetting view first one two None told) (λ told. Unit {0}) _ _ _ laid
    (λ k. c.in-Err-reset_logs.ensures.moments view one two k (inl own) next after)

pub returns-in-Err-lay_down-clause-moments : goal.returns-in-Err-lay_down-clause-moments
returns-in-Err-lay_down-clause-moments g c view one two h sized none seen is own next after =
    let first = c.args.headers.now.first in
    let synced = c.in-Ok.ensures.moments view one two h in
    let same = c.in-Ok.ensures.reads in
    opening_failed view (λ told. AreSynced view one two told) (λ told. AreSynced view one two told) _ _ _ synced
    (λ k. c.in-Err-lay_down.ensures.moments view one two first k sized none
    (λ some. said_still (λ files. AreSeen view one two c.args.places.now files) _ _ same (seen some)) c.requires.first
    (said_still (λ files. IsFirst files first one two) _ _ same is))

pub returns-in-Err-clause-moments : goal.returns-in-Err-clause-moments
returns-in-Err-clause-moments g c view one two h sized none seen is own next after = c.in-Err.ensures.moments view one two h

pub lay_down-requires-clause-fits : goal.lay_down-requires-clause-fits
lay_down-requires-clause-fits g c = said_still (λ files. FitPlaces files (length c.args.buf.now) c.args.places.now) _ _ c.in-Ok.ensures.reads c.requires.fits
