mod RunFaults
mod RunPromise
