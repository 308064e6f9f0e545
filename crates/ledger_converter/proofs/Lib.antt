mod PlanParts
mod PlanFacts
mod Walking
mod Contents
mod Conversions
