-- The demands of the code. Assumes nothing.
use Rattle.demands.specs.Demands.{Demands}
use Rattle.demands.proofs.Demand1.{demand-1-of-the-code}
use Rattle.demands.proofs.Demand2.{demand-2-of-the-code}
use Rattle.demands.proofs.Demand3.{demand-3-of-the-code}

pub demands-of-the-code : Demands
demands-of-the-code = record { first = demand-1-of-the-code; second = demand-2-of-the-code; third = demand-3-of-the-code }
