mod Fitting
